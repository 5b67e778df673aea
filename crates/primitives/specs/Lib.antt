-- The primitives of an index list, and the face set that lists them.
pub mod Primitives
pub mod Kept
pub mod Stretches
pub mod Walk
