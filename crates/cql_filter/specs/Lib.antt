pub mod Causes
pub mod Filters
pub mod Answer
pub mod Laws
