pub mod Identifiers
pub mod Laws
pub mod Merging
pub mod Segments
pub mod Walks
pub mod lemmas
pub mod inner
