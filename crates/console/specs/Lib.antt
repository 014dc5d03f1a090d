-- What the programs' library promises.
pub mod Tracing
pub mod Text
pub mod Input
