-- The laws: what callers cite, and what only the proofs of this crate cite.
pub mod Actions
pub mod Arrays
pub mod Marking
pub mod Following
mod Reductions
mod Endings
mod Walking
pub mod Filled
mod Within
mod Questions
