-- What `listing` prints for one envelope.
pub mod Printed
