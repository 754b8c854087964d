-- Definitions of scripts.
pub mod Format
-- Statements about these definitions, each the contract of a lemma.
pub mod Laws
-- Definitions that only proofs and private clauses cite.
pub mod Steps
