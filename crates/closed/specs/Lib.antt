-- The outlines of the kept faces of a block, and the edges of triangles held against them.
pub mod Outlines
pub mod Edges
pub mod Closed
