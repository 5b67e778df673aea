-- What is listed of a triangle, fan, strip or quad set.
pub mod Shape
