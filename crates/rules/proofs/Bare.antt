-- A run without depths, a device of the proofs; no statement mentions it.
pub mod Step
pub mod Run
pub mod Statements
pub mod Same
