-- Laws of the questions.
pub mod Answering
