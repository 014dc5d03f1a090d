-- The laws: what callers cite, and what only the proofs of this crate cite.
pub mod Checking
pub mod Bounds
mod RuleLaws
pub mod ActionLaws
pub mod Sought
pub mod Fields
mod Search
pub mod Placed
