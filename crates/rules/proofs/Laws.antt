-- Laws of the definitions, of any group, any store and any step.
-- truth values, tests of 1..n, rows of a table, counting
pub mod Bool
pub mod All
pub mod Row
pub mod Count
-- a tally, the places of a group, the store, a record
pub mod Tally
pub mod Group
pub mod Store
pub mod Process
-- what keeps a group sound, what it means that the table passes a step, and a start and a step whole
pub mod Sound
pub mod Passing
pub mod Whole
-- the course of a step as the code comes to it
pub mod Course
pub mod Way
