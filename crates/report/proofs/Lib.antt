pub mod Unique
pub mod Cases
pub mod Space
