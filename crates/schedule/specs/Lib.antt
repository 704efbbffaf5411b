-- The meaning of schedule files and of their run, in document 01's words: what a reader must believe. Read it in this order with document 01, or docs/FORMAT.md, beside it.

-- "Numbers"
pub mod Limits
-- "The schedule file and the report": lines, sections, the file whole. Decimals are in crate text
pub mod Lines
pub mod Line
pub mod Header
pub mod Values
pub mod Schedule
-- what holds of every file
pub mod Files
pub mod FaultTable
-- the run
pub mod Counts
pub mod Run
-- what holds of every sound file
pub mod Promise
-- for the contracts of private functions alone
pub mod Ahead
pub mod Private
