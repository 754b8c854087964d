pub mod Words
pub mod Firsts
pub mod Reading
pub mod Taking
-- What proofs of other crates cite.
pub mod Lines
