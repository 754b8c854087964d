pub mod Words
pub mod BegunThere
pub mod Places
pub mod TicketFields
pub mod FieldArrays
pub mod Tried
pub mod ErrorLines
-- What proofs of other crates cite.
pub mod TextLengths
