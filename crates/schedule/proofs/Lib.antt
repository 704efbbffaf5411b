pub mod RoundTrip
pub mod Stops
pub mod Reading
pub mod Running
pub mod Promise
pub mod Files
pub mod FaultTable
pub mod Unique
