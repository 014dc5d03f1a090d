-- Laws of the checks.
pub mod Checks
