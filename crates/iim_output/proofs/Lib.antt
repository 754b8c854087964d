-- What proofs of other crates cite.
pub mod Holding
