-- A sphere.
pub mod Sphere
