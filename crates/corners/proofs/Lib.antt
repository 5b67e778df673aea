-- The laws and proofs of the crate.
mod Floats
mod Mades
mod Corners
pub mod Rooms
