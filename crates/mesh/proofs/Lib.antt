-- The theorem of one changed run, the shapes' theorems, and the laws that the code cites.
mod Sample
pub mod Rows
pub mod FaceSetRow
pub mod Keys
pub mod Usable
pub mod Sums
pub mod Corners
pub mod Facts
pub mod Primitives
pub mod Gathered
pub mod Dense
mod Runs
pub mod Bytes
pub mod Options
pub mod OneFace
pub mod FaceSet
pub mod OneRun
pub mod Blocks
pub mod SameFrames
pub mod Sizes
pub mod LineSoup
pub mod Shapes
pub mod ShapeRows
pub mod Within
pub mod Seam
pub mod Budget
