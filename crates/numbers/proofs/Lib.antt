-- Laws of writing.
mod Parts
