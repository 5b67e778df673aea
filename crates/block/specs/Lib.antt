-- The definitions that the contracts of `block` cite.
pub mod Edition
pub mod Kind
pub mod Header
pub mod Extents
pub mod Refusal
pub mod Crease
pub mod Texture
pub mod Settings
pub mod Runs
pub mod Walk
pub mod Value
pub mod Stream
