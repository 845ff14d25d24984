pub mod Alike
pub mod Dependence
pub mod Matched
pub mod CoreStep
pub mod ShortStep
pub mod Theorem
pub mod Paper
