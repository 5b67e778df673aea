-- Laws of a cylinder, and rows of it worked out.
pub mod Sides
pub mod Rows
pub mod Within
pub mod Read
pub mod Closed
