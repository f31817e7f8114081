-- What the proofs of the run and of the programs cite.
pub mod Filters
pub mod Lengths
