pub mod FileLemmas
pub mod SurroundingsLemmas
pub mod VariableLemmas
