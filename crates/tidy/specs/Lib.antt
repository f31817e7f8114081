-- What `tidy` makes of one envelope.
pub mod Tidied
