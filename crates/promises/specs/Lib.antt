-- The promises of the public calls, and what is claimed to follow from them.
pub mod Buffers
pub mod Calls
pub mod Cells
pub mod Claims
pub mod Runs
pub mod Sequences
