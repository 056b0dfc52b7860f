-- Lemmas about the definitions, also for the proofs of crates above. No contract cites them.
pub mod ChannelLemmas
