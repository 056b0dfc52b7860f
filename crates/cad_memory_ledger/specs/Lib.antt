pub mod Ledgers
pub mod Readings
pub mod inner
