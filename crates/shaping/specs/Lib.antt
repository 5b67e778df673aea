-- What the faces of a shape share, what its tables hold, and what is asked of a shape.
pub mod Shared
pub mod Tabled
pub mod Shape
