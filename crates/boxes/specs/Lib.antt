-- A box.
pub mod Box
