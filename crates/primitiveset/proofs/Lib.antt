-- The laws of the tables of primitives; the first two are what callers cite.
pub mod Faces
pub mod Join
mod Writing
mod Turns
mod Rows
