-- Tables made ready for the vertices, and what a corner's key is read from.
pub mod Prepared
pub mod Keyed
pub mod Attributes
