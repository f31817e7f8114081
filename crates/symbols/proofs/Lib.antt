-- Laws of the symbol table in memory.
pub mod MarkLaws
pub mod EntryLaws
pub mod Entries
pub mod ChainLaws
