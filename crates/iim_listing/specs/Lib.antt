-- The definitions that public contracts cite.
pub mod Format
-- The states of readers and writers.
pub mod States
-- Statements of lemmas. Each is the contract of a public function.
pub mod Laws
-- Definitions that only proofs and private clauses cite.
pub mod Steps
