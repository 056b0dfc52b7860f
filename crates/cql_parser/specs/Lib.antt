pub mod Grammar
pub mod Machine
pub mod Faults
pub mod Answer
pub mod Laws
pub mod inner
