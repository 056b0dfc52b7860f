pub mod Answers
pub mod Keeping
pub mod Lines
pub mod JournalLines
pub mod Laws
pub mod OfficeFaults
pub mod lemmas
