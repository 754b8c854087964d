-- Definitions of the packed form.
pub mod Format
-- The states of a packer.
pub mod States
-- Statements about these definitions, each the contract of a lemma.
pub mod Laws
-- Definitions that only proofs and private clauses cite.
pub mod Steps
