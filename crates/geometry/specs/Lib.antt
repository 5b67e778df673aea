-- What a call answers, what it leaves in the lent slices, and what an accepted call made.
pub mod Answer
pub mod Converted
pub mod Apart
