-- What is known on the way of the joiner.
pub mod Merging
