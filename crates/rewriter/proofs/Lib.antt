-- Laws of measuring and writing a bundle item by item.
pub mod MapLaws
pub mod Arms
pub mod Rewritten
pub mod MeasureSteps
pub mod MeasureLoop
pub mod PutSteps
pub mod PutLoop
