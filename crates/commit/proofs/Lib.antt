-- Why the commit keeps its promise: what its parts leave alone, what holds while stacks move, and what has moved in the end.
-- what callers cite
pub mod After
-- what only the proofs of this crate cite
mod Map
mod Steps
mod Moving
mod Sharing
mod Results
mod Listing
mod Promise
