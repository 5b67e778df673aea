-- A PointSet.
pub mod PointSet
pub mod Numbers
