-- The laws that callers cite.
pub mod Streams
pub mod Filled
mod Spans
mod Rows
