-- How the state of the code stands for the state of reading, and what its answers for one item mean.
pub mod Judging
