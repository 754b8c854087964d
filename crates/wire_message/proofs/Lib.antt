pub mod Names
pub mod Packed
pub mod Machine
pub mod Runs
pub mod Transitions
pub mod Living
pub mod Goings
pub mod TextSoFar
pub mod Readings
pub mod Alike
pub mod Reached
pub mod Headers
pub mod Saving
pub mod Kept
-- What proofs of other crates cite.
pub mod MessageOctets
