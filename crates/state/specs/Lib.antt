-- Where things stand in the two buffers, the readings that bytes mean, the layout's rules, start and load, the turns of a feed. docs/LAYOUT.md tells them in words.
pub mod Layout
pub mod Readings
pub mod Check
pub mod Areas
pub mod Births
pub mod FeedTurns
