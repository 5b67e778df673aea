-- Where the tables of a soup lie in a slice of words, and what they hold.
pub mod Layout
pub mod Soups
pub mod Listed
pub mod Each
