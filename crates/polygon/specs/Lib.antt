pub mod Points
pub mod Facing
pub mod Ears
pub mod Plane
pub mod Face
pub mod Fans
pub mod Edges
pub mod Memo
