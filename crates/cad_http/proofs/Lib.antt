pub mod AskingLemmas
pub mod CountLemmas
pub mod ListingLemmas
pub mod PartLemmas
pub mod WalkLemmas
pub mod VisitLemmas
pub mod RestartLemmas
