-- What the program finds out before it applies anything.
pub mod Found
