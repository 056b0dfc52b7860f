pub mod FoundLemmas
pub mod EndingLemmas
pub mod NewRowLemmas
pub mod LentLemmas
pub mod RegisterLemmas
pub mod StartLemmas
pub mod StartRowLemmas
pub mod StartedLemmas
mod CountLemmas
pub mod AcceptedLemmas
mod BuiltLemmas
