-- Definitions that clauses of private functions cite. No contract of a public call cites them.
pub mod Parts
pub mod Nexts
pub mod Ends
