pub mod Bytes
pub mod Entry
pub mod Finder
pub mod Key
pub mod Marks
pub mod Status
pub mod Strip
