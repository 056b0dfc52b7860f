pub mod Indexed
pub mod Layers
pub mod Laws
pub mod Moments
pub mod inner
pub mod lemmas
