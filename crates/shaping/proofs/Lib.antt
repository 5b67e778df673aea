-- The room for a plan, what is left in the tables of a shape, what shapes read, and the theorem of all shapes.
pub mod Room
pub mod Tabling
pub mod Reading
pub mod Theorem
