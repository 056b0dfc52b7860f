pub mod PlainLemmas
pub mod ShowLemmas
pub mod LedgerLemmas
pub mod ReadingLemmas
