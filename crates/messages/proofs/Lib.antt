-- Laws of the texts.
pub mod Texts
