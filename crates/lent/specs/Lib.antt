-- What is lent for a block, what is made in it, and what a call answers.
pub mod Answer
pub mod Buffers
pub mod Lent
