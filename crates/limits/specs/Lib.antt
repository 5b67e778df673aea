-- What a case shows.
pub mod Shown
