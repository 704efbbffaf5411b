-- The run of a file: its counts, its steps one by one, the whole, and who decides.
pub mod Counts
pub mod Steps
pub mod Whole
pub mod Decided
