-- What holds of sine and cosine.
pub mod Division
pub mod Number
pub mod Halves
pub mod Final
pub mod Range
pub mod Promises
