-- The argument that no two processes hold different decisions.
-- over a view of a group and its store
pub mod Upd
pub mod Quorum
pub mod View
pub mod Inv
pub mod Keep
pub mod Moves
pub mod Focus
pub mod Opening
pub mod Rules
-- our definitions seen so
pub mod Seen
pub mod Stages
pub mod HearE
pub mod HearF
pub mod HearRest
pub mod EachStep
pub mod Agree
