-- Laws for the leaves.
pub mod HeaderLaws
pub mod CodeLaws
pub mod SameLaws
pub mod Wrote
pub mod Powers
pub mod OutputLaws
pub mod WidthLaws
