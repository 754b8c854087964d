-- The names that most proofs use.
pub mod Words
pub mod NumberSets
pub mod Entries
pub mod Table
pub mod Numbers
pub mod Runs
pub mod Checking
pub mod Stand
pub mod Endings
pub mod RowsMet
pub mod Telling
pub mod Build
pub mod Copying
pub mod Finish
pub mod Wholes
pub mod Subfiles
-- What proofs of other crates cite.
pub mod Dies
pub mod Follows
pub mod Sections
