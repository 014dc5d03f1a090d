-- The laws: what callers cite, and what only the proofs of this crate cite.
pub mod Windows
pub mod Rooms
mod States
mod Rules
mod RuleLists
mod Endings
pub mod Alternating
mod Readings
