mod ArmedLemmas
pub mod BelowLemmas
pub mod CallsLemmas
mod ChildLemmas
pub mod ChildNames
pub mod FileLemmas
pub mod FindLemmas
pub mod FolderChildLemmas
pub mod FolderSteps
pub mod MaterialLemmas
pub mod Membership
pub mod NameOrder
pub mod NamesLemmas
pub mod NodeLemmas
mod PlacesLemmas
pub mod ReachedLemmas
pub mod ReadLemmas
pub mod TextLemmas
pub mod WrapperLemmas
