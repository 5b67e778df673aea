-- The laws of the search and of the slices; those of a loop over corners are for other crates.
mod Seek
pub mod Keys
mod Buckets
mod ChainLaws
mod Rows
mod Held
pub mod Turns
pub mod Sliced
