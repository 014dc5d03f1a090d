-- Laws of start and of the questions.
pub mod Lengths
pub mod Starts
pub mod Asks
