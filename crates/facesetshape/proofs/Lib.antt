-- What an accepted face set gives, what is written to its tables, that it is a shape, and a worked case. The first three serve whatever has the lists of a
-- face set.
pub mod Bounds
pub mod Tabling
pub mod Shapes
mod Rows
