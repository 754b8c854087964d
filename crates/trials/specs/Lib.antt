-- The states of readers, writers and sinks for tests.
pub mod States
-- Definitions that only proofs and private clauses cite.
pub mod DeviceLaws
