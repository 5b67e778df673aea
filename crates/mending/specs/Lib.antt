-- The lent slices as a mesh of one point a vertex, with the table of first usable triangles.
pub mod Mend
