pub mod CivilLemmas
pub mod DayTextLemmas
pub mod NamingLemmas
mod MomentLemmas
mod RelationLemmas
