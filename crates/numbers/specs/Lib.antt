-- What the crate's contracts cite, beside meaning's reads.
pub mod Writing
pub mod Zeros
