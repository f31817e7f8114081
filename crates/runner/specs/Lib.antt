-- The programs, by what they make of one envelope.
pub mod Program
