mod Examples
pub mod VerifyLemmas
