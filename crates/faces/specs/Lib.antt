-- The indices of the kept faces, from tables.
pub mod Naming
pub mod Indices
