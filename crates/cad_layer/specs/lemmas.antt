-- Lemmas about the definitions, for the proofs of crates above. No contract cites them.
pub mod AfterLemmas
pub mod CountLemmas
pub mod FilterLemmas
pub mod ItemLemmas
pub mod ListedLemmas
pub mod LookupLemmas
pub mod MergeLemmas
pub mod MomentLemmas
pub mod SearchLemmas
pub mod SegmentLemmas
