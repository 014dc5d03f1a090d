-- The laws that callers cite, of slots in bytes, of lists of readings, of valid states, of load and start, of the births of a feed; and what only the proofs of this crate cite.
pub mod Places
pub mod Births
pub mod FeedTurns
pub mod Slots
pub mod Lists
pub mod Valid
pub mod Loading
mod Checking
pub mod Holding
mod Starting
