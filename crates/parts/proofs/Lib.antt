-- Laws of what the parts have in common.
pub mod Pushing
pub mod Capping
pub mod Parting
pub mod Holding
pub mod Naming
pub mod Taking
pub mod Edges
pub mod Building
pub mod Turning
