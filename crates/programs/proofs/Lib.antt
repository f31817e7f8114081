-- What the proofs of the programs cite.
pub mod Lines
pub mod Requests
pub mod Laws
