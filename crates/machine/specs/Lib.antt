-- The machine's constants by their definitions; what start and the questions ask and leave on buffers of the right lengths.
pub mod Lines
pub mod Limits
