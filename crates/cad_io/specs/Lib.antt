pub mod Decimals
pub mod Writing
pub mod Known
pub mod Counting
pub mod Pieces
pub mod lemmas
