mod AddedLemmas
mod AloneLemmas
mod BareLemmas
mod ClassLemmas
mod DependentLemmas
mod FeatureLemmas
mod FitLemmas
mod ItemLemmas
mod PartLemmas
mod RevisionLemmas
mod StandingLemmas
mod StepLemmas
mod TestLemmas
mod TouchedLemmas
mod VersionLemmas
pub mod Fitting
