pub mod MapEntries
pub mod MaterialLemmas
