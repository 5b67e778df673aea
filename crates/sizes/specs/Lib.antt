-- What is known of a block whose sizes are asked for, and what its sizes are.
pub mod Known
pub mod Judged
pub mod Flagged
pub mod Called
