pub mod HostingLemmas
pub mod FirstLineLemmas
pub mod ChainingLemmas
pub mod CheckingLemmas
pub mod FileLemmas
pub mod JournalLemmas
pub mod KeepingLemmas
pub mod ReadingLemmas
