pub mod Between
pub mod WideStep
pub mod Entry
pub mod Ends
pub mod Straight
pub mod Theorem
