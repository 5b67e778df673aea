-- Laws of a PointSet, and rows of it worked out.
pub mod Copied
pub mod Calls
pub mod Rows
