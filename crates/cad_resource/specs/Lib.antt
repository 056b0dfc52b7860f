pub mod Heads
pub mod Places
pub mod Checks
pub mod Requested
pub mod RouteRows
pub mod Laws
