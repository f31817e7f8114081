-- What the answers of the leaves mean.
pub mod Heads
pub mod Numbers
pub mod Output
