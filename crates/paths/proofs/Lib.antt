-- Theorems about calls, and what it is to be hit.
pub mod Calls
pub mod Meaning
pub mod Rows
-- Laws behind them and behind the functions.
mod Passing
mod Corners
mod Hitting
mod Loading
mod Refusing
