-- The vertices in the output slices, by definition: where they stand, the buckets, the search, and one vertex more.
pub mod Places
pub mod Hash
pub mod Search
pub mod Adding
