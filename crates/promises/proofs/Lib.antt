-- What follows from the promises: one outcome of each (Outcomes), the first and the third demand (Keeping, Demand3), answer 3 (Lasting), P1 to P10 (Runs), determinacy over a run (Sequences); the rest is on the way there.
pub mod Refusals
pub mod Checks
pub mod Buffers
pub mod Asking
pub mod Identities
pub mod Pigeonhole
pub mod SameCells
pub mod Outcomes
pub mod Keeping
pub mod Lasting
pub mod Demand3
pub mod Steps
pub mod Runs
pub mod Sameness
pub mod Answering
pub mod Sequences
