-- Corner normals from tables: faces by number, rows of faces, and what is written.
pub mod Group
pub mod Rows
pub mod Sums
pub mod Written
