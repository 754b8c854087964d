pub mod Words
pub mod Spelling
pub mod Sorting
pub mod Carrying
pub mod FieldsOut
pub mod Endings
pub mod Finishings
pub mod Openings
pub mod Startings
pub mod Ones
pub mod Lengths
pub mod Beginnings
-- What proofs of other crates cite.
pub mod Goings
pub mod LinesOut
pub mod Wholes
pub mod Orders
