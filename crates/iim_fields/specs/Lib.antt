-- Records and envelopes: the definitions.
pub mod Format
-- The states of checks, readers and builders.
pub mod States
-- Statements of lemmas about these. Each is the contract of a function that does nothing.
pub mod Laws
-- Definitions that only proofs and private clauses cite.
pub mod StoreLayout
pub mod Steps
