pub mod ChecksumLemmas
pub mod CutLineLemmas
pub mod EscapeLemmas
pub mod FaultLemmas
pub mod NoEntryLemmas
pub mod PlaceLemmas
pub mod RestLemmas
