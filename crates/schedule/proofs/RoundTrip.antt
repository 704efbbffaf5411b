-- What is spelled is read, and what is read is spelled.
pub mod StepLine
pub mod Found
pub mod ValueLine
pub mod Header
pub mod Rows
pub mod File
