pub mod ListLemmas
pub mod PlanLemmas
pub mod LeafLemmas
pub mod PrunedLemmas
pub mod WindowLemmas
pub mod StandLemmas
pub mod Weights
