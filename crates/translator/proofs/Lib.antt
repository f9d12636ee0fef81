mod Areas
mod Counting
mod Outcomes
mod Passing
mod Searches
mod Writes
