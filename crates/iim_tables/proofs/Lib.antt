pub mod DateLemmas
pub mod InstantLemmas
pub mod RowLemmas
pub mod TimeLemmas
pub mod WorkedRows
-- What proofs of other crates cite.
pub mod GoodDatasets
pub mod LaneLemmas
