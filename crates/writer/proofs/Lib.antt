-- Laws of the writer.
pub mod OutputLaws
pub mod Loop
pub mod PutLaws
pub mod WriteLaws
