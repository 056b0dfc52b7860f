-- Definitions that clauses of private functions cite. No contract of a public call cites them.
pub mod Closings
pub mod Line
pub mod Offices
pub mod Rounds
pub mod Standing
pub mod Times
