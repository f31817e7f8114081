-- Laws of UTF-8.
pub mod LeadBytes
pub mod LocalRule
pub mod AsciiRuns
pub mod Ranges
