-- How many indices are made, what is made by a block's header, what the calls ask, the join to the mesh's definition, and a worked case.
pub mod Indices
pub mod Shaping
mod Asked
mod Joined
mod Rows
