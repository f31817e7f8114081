-- Parts of a text written one after the other, and how long they are.
pub mod Writing
pub mod Decimals
pub mod Lengths
pub mod Labels
