pub mod Schemas
pub mod Counted
pub mod Served
mod PeriodLemmas
mod RangeLemmas
mod NearLemmas
