-- The laws behind the functions, and the theorems that callers cite.
mod Counts
mod Making
pub mod Fitting
mod Said
mod Rows
