-- Kinds, rows, dates and times.
pub mod Format
pub mod Text
