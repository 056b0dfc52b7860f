pub mod AskLemmas
pub mod OrderLemmas
pub mod SameLemmas
