-- Laws of a cone, and rows of it worked out.
pub mod Scaling
pub mod Sides
pub mod Rows
pub mod Within
pub mod Read
