-- Definitions that clauses of private functions cite. No contract of a public call cites them.
pub mod Found
pub mod Gathering
pub mod Inquiring
pub mod Reading
pub mod Slots
