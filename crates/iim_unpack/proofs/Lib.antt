pub mod Words
pub mod Faults
pub mod Sequences
pub mod Carrying
pub mod Heading
pub mod Closing
pub mod Feeding
pub mod PieceLemmas
pub mod Held
pub mod SamePlace
pub mod Restored
-- What proofs of other crates cite.
pub mod Intakes
