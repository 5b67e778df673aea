-- What an accepted set of primitives gives, that it is a shape, and a worked case.
mod Bounds
mod Shapes
mod Rows
