pub mod WriteLemmas
pub mod PrintLemmas
pub mod LineLemmas
pub mod AnswerLemmas
pub mod PieceLemmas
pub mod KeepingLemmas
pub mod JournalLemmas
