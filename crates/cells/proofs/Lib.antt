-- The laws that callers cite: of cells in bytes, of stacks, of births; and of tests joined by `both`.
pub mod Records
pub mod Stacks
pub mod Births
