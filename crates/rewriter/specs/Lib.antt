-- What is known of a bundle that is measured and written item by item.
pub mod Items
pub mod Measuring
pub mod Putting
