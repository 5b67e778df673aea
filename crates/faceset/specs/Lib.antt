-- The tables of a face set: what they list, how a face is added, and how far a pass over the runs has come.
pub mod Listings
pub mod Adding
pub mod Passing
