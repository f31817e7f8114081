-- Text in ASCII.
pub mod Text
