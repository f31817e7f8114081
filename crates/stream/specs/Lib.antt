-- The window over an input, a program's state, its run, and what holds of a whole run, with examples.
pub mod Window
pub mod State
pub mod Run
pub mod Whole
pub mod Laws
pub mod Examples
