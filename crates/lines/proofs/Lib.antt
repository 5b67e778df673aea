-- The laws and proofs of the crate.
mod Counting
pub mod Usage
mod Entries
pub mod Lengths
mod Pairs
pub mod UseKeys
mod Indices
mod Meshed
pub mod Keyed
pub mod Counts
mod LineRows
