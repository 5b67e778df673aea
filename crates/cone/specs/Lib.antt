-- A cone.
pub mod Cone
