-- Lists made and searched by number, parts of a list, pieces joined, words that name numbers, and elements changed one by one.
pub mod Loops
pub mod Parts
pub mod Lists
pub mod Named
pub mod Searches
pub mod Counts
pub mod Updates
