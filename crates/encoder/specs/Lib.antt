-- The canonical encoding of items as it is measured and written.
pub mod Output
pub mod Plan
