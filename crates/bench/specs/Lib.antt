-- What is promised of what is measured.
pub mod Measured
