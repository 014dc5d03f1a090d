-- Laws of filling.
pub mod Laws
