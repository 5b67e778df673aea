-- The plan of a face set, what is listed of it, and its texture.
pub mod Shape
