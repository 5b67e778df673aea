-- The theorem that joins what is written to the mesh's definition, and the laws of the functions.
mod Counting
mod Grouping
mod Rings
mod Walks
mod Arms
pub mod Fills
mod Making
mod Floats
mod Summing
mod Soups
mod Begun
mod Waiting
pub mod Joined
