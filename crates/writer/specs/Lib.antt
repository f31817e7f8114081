-- What judging and writing all rows promise.
pub mod Verdict
pub mod Putting
