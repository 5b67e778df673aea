-- What is listed of an extrusion, and its texture.
pub mod Shape
