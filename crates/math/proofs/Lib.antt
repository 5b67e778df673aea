-- Theorems and laws that callers cite.
pub mod Normal
pub mod Near
pub mod Rows
pub mod Grid
pub mod UnitLaws
pub mod Chain
pub mod RootUnits
-- Laws behind them and behind the functions.
mod Whole
mod Digits
mod RootDigits
mod Place
mod Sorts
mod Compare
mod Words
mod Pattern
mod Length
mod Usable
