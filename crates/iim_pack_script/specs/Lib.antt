-- Definitions of the command `pack`.
pub mod Format
-- Definitions that only proofs and private clauses cite.
pub mod Steps

-- The model of a target with a buffer of one block.
