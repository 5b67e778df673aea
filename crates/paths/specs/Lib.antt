-- Paths against a mesh.
pub mod Intersect
pub mod Paths
-- What the code carries from triangle to triangle.
pub mod Pass
