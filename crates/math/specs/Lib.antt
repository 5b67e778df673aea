pub mod Vector
pub mod SquareRoot
pub mod Nearest
pub mod Digit
pub mod Quaternion
pub mod Order
pub mod Whole
