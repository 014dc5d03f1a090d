-- Laws of the program.
mod Lines
