-- The theorem that joins what is written to the mesh's definition, and the laws of the functions.
mod Threes
pub mod Pieces
mod Turning
pub mod Joined
