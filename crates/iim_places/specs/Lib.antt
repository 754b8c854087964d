-- Definitions of the format.
pub mod Format
-- The states of readers and writers.
pub mod States
-- Statements about these definitions, each the contract of a lemma.
pub mod Laws
-- Definitions that only proofs and private clauses cite.
pub mod TicketParts
pub mod Restoring
pub mod NullObjectSink
