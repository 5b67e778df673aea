-- What a call shows, by its answer.
mod Showing
