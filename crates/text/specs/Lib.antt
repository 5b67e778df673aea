-- The text of an answer (FORMAT 14), as bytes.
pub mod Wrote
pub mod Digits
pub mod Fields
pub mod Lines
pub mod Answer
