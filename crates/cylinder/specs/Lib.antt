-- A cylinder.
pub mod Cylinder
