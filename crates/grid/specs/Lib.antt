-- The sides of a grid, its quads as they are listed, and how its corners are used.
pub mod Sides
pub mod Listings
pub mod Textures
