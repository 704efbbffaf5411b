-- The meaning of a report's bytes, in document 01's words: what a reader must believe. Read it in this order with document 01, or docs/FORMAT.md, beside it.

-- a line by its template
pub mod Filled
-- the report's bytes
pub mod Report
pub mod Example
-- for the contracts of private functions alone
pub mod Private
