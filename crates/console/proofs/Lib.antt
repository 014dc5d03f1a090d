-- Laws of what the trace says, of what stands in a line, and of how lines come in.
pub mod Tracing
pub mod Text
pub mod Filling
