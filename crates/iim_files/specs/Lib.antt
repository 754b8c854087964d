-- The definitions that public contracts cite.
pub mod Format
-- The states of writers.
pub mod States
