-- The laws behind the functions, and the theorems that callers cite.
pub mod Pieces
mod Spelling
pub mod ReadBack
pub mod TextFits
pub mod Rows
