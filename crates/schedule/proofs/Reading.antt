-- Reading as the code does it.
-- the cases of words, numbers and lines; places with an LF ahead; what is known to keep the form; lines one after the other
pub mod Cases
pub mod Ahead
pub mod Known
pub mod InARow
-- where reading stops
pub mod Bounds
-- a whole file
pub mod Whole
