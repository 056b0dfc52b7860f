pub mod Residual
pub mod Runs
pub mod Nodes
pub mod Turns
pub mod Ordering
pub mod Verdict
pub mod Depth
