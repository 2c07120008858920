pub mod CallLemmas
mod Examples
pub mod IncludedLemmas
pub mod InputLemmas
pub mod LookLemmas
pub mod NamingLemmas
pub mod RecordLemmas
pub mod RequestLemmas
