pub mod CutLemmas
mod Examples
pub mod KeyedLemmas
pub mod LongestLemmas
pub mod PartLemmas
pub mod PathLemmas
pub mod PlainLemmas
pub mod QuoteLemmas
pub mod RunLemmas
pub mod StateLemmas
pub mod StepLemmas
pub mod TableLemmas
mod TaskLemmas
