-- The definitions that public contracts cite.
pub mod Format
-- Definitions that only proofs and private clauses cite.
pub mod Steps
