mod Exclusion
mod PartLemmas
mod FoldingLemmas
mod ExpressionLemmas
mod ConditionLemmas
mod ConstantLemmas
