-- The results of calls with a handle, and the state of the handle afterwards.
pub mod Format
-- What the owner in a handle owns.
pub mod Owners
-- What the readers return.
pub mod States
-- What remains of an iteration.
pub mod Walks
