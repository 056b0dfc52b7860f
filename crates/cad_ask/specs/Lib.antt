pub mod Faults
pub mod Answers
pub mod Bodies
pub mod Laws
pub mod lemmas
