-- The theorem of the edges, of the definition and of a call, what follows for a closed hall, and worked cases.
pub mod Edges
pub mod Soup
pub mod Outlines
pub mod Gaps
pub mod Closed
pub mod Rows
pub mod MeshRows
