pub mod Calls
pub mod Lines
pub mod Seen
pub mod Surroundings
