-- The theorem that the listings are the grid's quads, and what callers need to call the code.
pub mod Theorem
pub mod Sized
pub mod Held
-- Laws behind the functions, and a row.
mod Numbers
mod Coords
mod Corners
mod Edges
mod Rows
