-- What the code that makes a mesh from tables asks, and what it leaves.
pub mod Built
