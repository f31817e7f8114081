-- Laws of the joiner.
pub mod MergeLaws
pub mod JoinLaws
