-- What the program lends, and its answer to an input as a text.
pub mod Lending
pub mod Text
