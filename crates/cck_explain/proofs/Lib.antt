pub mod BufferLemmas
pub mod JudgedLemmas
pub mod ListingLemmas
pub mod NotedLemmas
pub mod PartsLemmas
pub mod PutLemmas
pub mod RunLemmas
pub mod WrittenLemmas
