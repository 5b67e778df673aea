-- The laws that join the tables to the keys of the soup.
mod Generating
pub mod Keyed
pub mod Handed
pub mod Streams
