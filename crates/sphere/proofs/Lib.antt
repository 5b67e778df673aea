-- Laws of a sphere, and rows of it worked out.
pub mod Adding
pub mod Sized
pub mod Calling
pub mod SphereRows
pub mod Within
pub mod Read
