-- The theorems that callers cite.
pub mod MendedWords
pub mod Rows
-- The laws behind the functions.
mod Lent
mod Table
mod Fixing
mod NearOne
