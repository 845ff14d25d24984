pub mod Dirt
pub mod Demand3
