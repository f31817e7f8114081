-- What the proofs of the functions cite.
pub mod WindowLaws
pub mod StateLaws
pub mod Processing
pub mod Turning
pub mod Laws
pub mod Taking
