-- How a call ends.
mod Ends
