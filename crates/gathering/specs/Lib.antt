-- What gathering the error records means.
pub mod Gathering
