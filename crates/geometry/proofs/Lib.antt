-- The laws of one call, the theorem of two calls, and worked cases.
pub mod Refusing
mod ByKind
pub mod Calls
pub mod Colours
pub mod Made
pub mod Apart
pub mod ApartRows
pub mod Bench
mod Rows
mod PrimitiveRows
