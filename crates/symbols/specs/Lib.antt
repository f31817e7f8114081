-- What the symbol table in memory stands for.
pub mod Mark
pub mod Entry
pub mod Entries
pub mod Chains
pub mod Noting
pub mod Names
