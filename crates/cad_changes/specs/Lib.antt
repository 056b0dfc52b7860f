pub mod Changes
pub mod Laws
pub mod Touching
pub mod inner
