-- Definitions that clauses of private functions cite. No contract of a public call cites them.
pub mod Rooms
pub mod Journals
pub mod Counts
pub mod Beginnings
