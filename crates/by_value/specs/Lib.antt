-- What the calls by value ask inside and promise, and what is claimed of them.
pub mod Reading
pub mod Feeding
pub mod Claims
