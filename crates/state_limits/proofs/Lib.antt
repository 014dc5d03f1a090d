-- Why results that pass the test of a list may be committed.
pub mod Tested
