-- One item more of a bundle that reads, and the law of the walk.
pub mod Steps
pub mod Laws
