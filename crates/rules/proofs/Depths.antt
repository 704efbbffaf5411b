-- What is argued of depths: their limits, what a step does to them, what keeps them, and what they count.
pub mod Basics
pub mod Steps
pub mod Chains
pub mod TwoSteps
pub mod Kept
