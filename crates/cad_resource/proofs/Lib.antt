mod ParamLemmas
mod PathLemmas
mod ResourceLemmas
mod TargetLemmas
mod RouteLemmas
