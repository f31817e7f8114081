-- Laws for the reader.
pub mod LastRule
pub mod Turns
pub mod Tops
pub mod FillSteps
