pub mod HeldReturns
pub mod Living
pub mod Told
pub mod Pieces
pub mod Marked
pub mod Words
pub mod Blanks
pub mod Fronts
-- What proofs of other crates cite.
pub mod Collected
pub mod Spans
pub mod SoFar
pub mod PackedEvents
