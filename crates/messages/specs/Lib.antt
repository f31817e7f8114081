-- What the programs say on standard error.
pub mod Text
pub mod Examples
