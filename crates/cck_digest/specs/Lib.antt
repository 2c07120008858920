pub mod Digest
pub mod Error
pub mod Finder
pub mod Frames
pub mod KeyError
pub mod Stream
pub mod TimeMacros
