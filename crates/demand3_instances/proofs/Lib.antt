pub mod Cases
pub mod Instances
