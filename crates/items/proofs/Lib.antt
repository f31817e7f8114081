-- Laws for one item.
pub mod Ladder
pub mod Flat
pub mod Contents
pub mod NameEntry
pub mod Heads
