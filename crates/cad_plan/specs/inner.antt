-- Definitions that clauses of private functions cite. No contract of a public call cites them.
pub mod Gathered
pub mod Pruned
pub mod Windows
