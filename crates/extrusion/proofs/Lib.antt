-- The theorems that callers cite, and the laws of the functions.
mod Values
mod Planes
mod Walking
mod Finding
pub mod Blocks
mod Lengths
mod Fitting
mod Sides
mod Counting
mod Inside
mod Tabled
pub mod Joined
pub mod Textures
pub mod Counted
mod FaceRows
