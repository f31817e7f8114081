-- The walk over a bundle that reads.
pub mod Walking
pub mod Laws
