-- What the questions ask of their callers.
pub mod Asking
