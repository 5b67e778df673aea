-- Where the tables stand and what they hold, what an accepted line set gives, the join to the mesh's definition, and a worked case.
mod Tabling
mod Bounds
mod Readying
mod Rows
