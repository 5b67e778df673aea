-- The laws of the face set's tables; those of adding a face serve whatever lists faces.
pub mod Faces
pub mod Writing
pub mod Adding
mod Turns
mod ListingRows
