pub mod IdentifierLemmas
pub mod ListedLemmas
pub mod PropertyLemmas
pub mod SendLemmas
