-- Lemmas about the definitions, for the proofs of crates above. No contract cites them.
pub mod AheadLemmas
pub mod AscendingLemmas
pub mod TakenLemmas
