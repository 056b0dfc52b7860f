mod RetirementLemmas
mod CheckLemmas
