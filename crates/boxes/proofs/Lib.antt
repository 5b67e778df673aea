-- Laws of a box, and rows of it worked out.
pub mod Sized
pub mod Rows
