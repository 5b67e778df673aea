-- The tables of a triangle, fan, strip or quad set: what they list, and how far a pass over its stretches has come.
pub mod Listings
pub mod Passing
