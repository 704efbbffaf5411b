-- The meaning of text in lent bytes: what a reader must believe.

-- what is read at a place
pub mod Read
-- decimals, read and spelled
pub mod Number
-- a text put at a place
pub mod Put
-- what the round trip speaks of
pub mod Stands
-- where a byte may be looked at
pub mod Look
