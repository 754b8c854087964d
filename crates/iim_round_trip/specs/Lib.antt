-- Definitions of the round trip.
pub mod Format
-- Statements about these definitions, each the contract of a lemma.
pub mod Laws
