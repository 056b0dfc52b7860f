-- Lemmas about the definitions, for the proofs of crates above. No contract cites them.
pub mod MomentLemmas
