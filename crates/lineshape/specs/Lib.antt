-- What is asked for a line set, and what its tables hold.
pub mod Shape
