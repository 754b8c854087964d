-- Texts and stories: the definitions.
pub mod Format
-- The states of readers and writers.
pub mod States
-- Statements of lemmas about these. Each is the contract of a function that does nothing.
pub mod Laws
-- Definitions that only proofs and private clauses cite.
pub mod Steps
