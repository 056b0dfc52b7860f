-- Definitions that clauses of private functions cite. No contract of a public call cites them.
pub mod Counted
pub mod Ending
pub mod Found
pub mod Starting
pub mod Built
