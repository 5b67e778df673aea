-- The laws of accepted blocks and of what is made.
pub mod Accepts
pub mod Points
pub mod Just
