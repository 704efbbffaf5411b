-- The meaning of the rules, in document 01's words: what a reader must believe. Read it in this order with document 01, or docs/MODEL.md, beside it.

-- "Numbers"
pub mod Limits
-- "Records and the message store"
pub mod Tally
pub mod Records
pub mod Layout
pub mod Look
pub mod Store
-- "Steps" and "Repairs to the printed figure"
pub mod Events
pub mod Kinds
pub mod Idle
-- request 2026-06
pub mod Depths
-- "Refusals"
pub mod Refusals
-- a start and a step whole: "Every step is applied, idle or refused"
pub mod Answers
pub mod Start
pub mod Step
-- a run, what holds of every one, and "Runs to hold it against"
pub mod Run
pub mod Safety
pub mod DepthTable
pub mod Table
-- for the contracts of private functions alone
pub mod Private
