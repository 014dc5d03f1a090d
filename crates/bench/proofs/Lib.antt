-- Laws of what is measured.
pub mod Measuring
