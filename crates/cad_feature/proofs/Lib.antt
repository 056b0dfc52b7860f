mod EntryLemmas
mod FeatureLemmas
mod FoldedLemmas
mod LawLemmas
mod ListLemmas
mod RowLemmas
mod RunLemmas
mod StretchLemmas
