-- The vertices of all corners: where their tables stand, the key of a corner, one corner's vertex, and what is made.
pub mod Laid
pub mod Corner
pub mod Given
pub mod Numbered
pub mod Cornered
