pub mod FixedCompiler
pub mod NotingFiles
