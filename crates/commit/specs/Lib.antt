-- The commit as a function on bytes, and its promise.
pub mod Moving
pub mod Committing
