-- What the calls on envelopes answer, what they promise, and the law for bytes that come in pieces.
pub mod Answers
pub mod Laws
