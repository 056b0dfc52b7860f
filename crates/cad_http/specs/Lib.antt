pub mod Walks
pub mod Visits
pub mod Restarts
pub mod Laws
pub mod Desks
