-- What the contracts of `extrusion` cite beside the definitions of the mesh.
pub mod Given
pub mod Rows
pub mod Listings
pub mod Corners
