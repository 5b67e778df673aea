-- The texture of a grid.
pub mod Shape
