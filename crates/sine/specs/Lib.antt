-- Sine and cosine from the table, and what is promised of them.
pub mod Angle
pub mod SinCos
