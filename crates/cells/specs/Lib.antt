-- Cells as bytes, and above them stacks, which know no byte.
pub mod Pool
pub mod Stacks
