-- The diagnosis of a table file: each rule of the file with what is said where it is broken. What the diagnosis says together: Diagnosis.
pub mod Verdicts
pub mod Frame
pub mod Rules
pub mod Records
pub mod Diagnosis
