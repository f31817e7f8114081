-- What is known of rows judged so far, and of one row more.
pub mod Stack
pub mod Steps
pub mod Rules
pub mod Plan
pub mod Judging
pub mod Names
