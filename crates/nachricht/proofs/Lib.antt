-- The laws of writing and reading together.
pub mod Laws
