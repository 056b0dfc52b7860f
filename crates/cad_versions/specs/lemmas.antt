-- Lemmas about the definitions, for the proofs of crates above. No contract cites them.
pub mod ListLemmas
pub mod SortLemmas
pub mod HistoryLemmas
pub mod ClosingLemmas
pub mod EntryLemmas
pub mod OrderLemmas
pub mod ShapeLemmas
pub mod RingLemmas
pub mod SameLemmas
pub mod BodyLemmas
pub mod AcceptedLemmas
pub mod SeenLemmas
