-- The texture of a corner from the block's bytes, and the table of the corners' textures.
pub mod Corner
pub mod Textured
