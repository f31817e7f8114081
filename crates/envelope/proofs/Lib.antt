-- The laws of envelopes, and what the proofs of the functions cite.
pub mod OpeningLaws
pub mod ClosingLaws
pub mod Laws
