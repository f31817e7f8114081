-- What the answers of the reader mean.
pub mod Lanes
pub mod Answers
pub mod Filling
pub mod Promises
