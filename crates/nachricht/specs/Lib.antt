-- What the answers of the C interface are, and the laws of writing and reading together.
pub mod Answers
pub mod Laws
