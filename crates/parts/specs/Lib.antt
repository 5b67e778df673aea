-- What the parts have in common: how one is built, what is made of it, and what its call promises.
pub mod Sizes
pub mod Ring
pub mod Part
pub mod Pushed
pub mod Cap
pub mod Round
pub mod Building
pub mod Written
pub mod Parted
pub mod Edges
pub mod Turns
