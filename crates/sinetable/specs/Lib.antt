-- The text of the table of the sine.
pub mod Lines
