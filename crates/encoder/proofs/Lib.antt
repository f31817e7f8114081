-- Laws of the canonical encoding as it is measured and written.
pub mod Lengths
pub mod OutputLaws
pub mod MeasureLaws
pub mod PutLaws
