pub mod Arguments
pub mod Compiler
pub mod ExtraFiles
pub mod PreprocessorKey
pub mod PreprocessorKeyRequest
pub mod Seen
