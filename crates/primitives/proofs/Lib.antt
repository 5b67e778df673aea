-- What holds of the primitives of an index list.
pub mod Rows
pub mod Closed
pub mod Counting
pub mod Meeting
