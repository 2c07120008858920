pub mod ArgumentLemmas
mod BaseExamples
pub mod BaseLemmas
mod BaseTestLemmas
mod ChecksumLemmas
mod ContentLemmas
mod DifferenceLemmas
mod PathStatusLemmas
mod EntryFileLemmas
pub mod EqualityLemmas
mod Examples
mod FrontCodingLemmas
pub mod ListLemmas
mod ObjectNameLemmas
pub mod ReadingLemmas
mod RemovalLemmas
mod SignatureLemmas
mod SizeLemmas
pub mod StoredLemmas
pub mod TestLemmas
pub mod TextLemmas
