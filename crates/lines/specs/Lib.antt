-- Line sets: what a run has; the entries that name a point, as corners; the lines one entry and one run after another; and the whole mesh.
pub mod Totals
pub mod Uses
pub mod Steps
pub mod Made
