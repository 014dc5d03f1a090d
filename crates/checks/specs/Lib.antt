-- What the checks of every call find.
pub mod Checks
