-- The laws that callers cite.
pub mod Besides
pub mod Room
pub mod Stays
pub mod Joins
pub mod Held
pub mod Spreads
pub mod Listings
pub mod Putting
