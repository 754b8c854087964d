-- The definitions that public contracts cite.
pub mod Format
