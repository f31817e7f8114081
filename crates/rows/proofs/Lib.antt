-- Laws of one row, judged and measured.
pub mod RowLaws
pub mod StackLaws
pub mod JudgeLaws
pub mod KindLaws
pub mod NameLaws
