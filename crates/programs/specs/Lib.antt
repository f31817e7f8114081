-- The command line; the run over all inputs, the exit status, and what that tells.
pub mod Arguments
pub mod Exit
pub mod Lines
pub mod Said
pub mod Laws
