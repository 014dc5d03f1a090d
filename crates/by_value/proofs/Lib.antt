-- Laws of the calls by value, and of the lent lists over them; what is claimed of them (Claims).
pub mod Listing
pub mod Stacks
pub mod Feeds
pub mod RunParts
pub mod Runs
pub mod Claims
