pub mod Given
pub mod Http
pub mod Keys
pub mod Listing
pub mod Number
pub mod Peer
pub mod Redis
pub mod Verify
