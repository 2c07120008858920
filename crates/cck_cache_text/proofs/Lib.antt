pub mod AbsentLemmas
pub mod CommentLemmas
mod HeaderTestExamples
pub mod HeaderTestLemmas
mod IncludedExamples
pub mod IncludedLemmas
pub mod LeftLemmas
pub mod LookedAtLemmas
pub mod NameLemmas
pub mod ReadLemmas
pub mod RuleLemmas
pub mod SearchLemmas
pub mod SetLemmas
pub mod TestedLemmas
