pub mod Architectures
pub mod ArgumentExamples
pub mod CopyLemmas
pub mod ExtraFiles
pub mod FileExamples
pub mod ListLemmas
pub mod MaterialLemmas
mod OutputEquality
pub mod Outputs
