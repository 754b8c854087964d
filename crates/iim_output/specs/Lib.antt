-- The definitions that public contracts cite.
pub mod Format
-- The states of readers and writers.
pub mod States
-- Definitions that only proofs and private clauses cite.
pub mod HoldingLaws
