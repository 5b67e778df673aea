-- The theorems that callers cite, and the laws of the functions.
pub mod FaceLaws
mod Within
mod ByKind
pub mod Decided
mod Bits
pub mod Calls
