-- Lemmas about the definitions, for the proofs of crates above. No contract cites them.
pub mod ApartLemmas
pub mod SnapshotLemmas
pub mod CollectionLemmas
pub mod NewestLemmas
pub mod RowLemmas
pub mod TurnLemmas
pub mod NextLemmas
pub mod ShownLemmas
pub mod ReplacedLemmas
