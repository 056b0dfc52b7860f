pub mod Blocks
pub mod Counted
pub mod Near
pub mod Laws
pub mod Entries
pub mod Grids
pub mod Squares
pub mod lemmas
