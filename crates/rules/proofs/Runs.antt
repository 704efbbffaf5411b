-- What is argued of runs step by step: first of the run without depths, then carried over to the run that the contracts cite.
pub mod Basics
pub mod Cases
-- fields and recoveries, what is stored, the store, soundness, what was handed over, tallies
pub mod Fields
pub mod Recoveries
pub mod Stored
pub mod Entries
pub mod Sound
pub mod Handing
pub mod Tallies
-- what a process has said, what is handed over again
pub mod Spoken
pub mod Repeats
pub mod Carried
pub mod Traffic
