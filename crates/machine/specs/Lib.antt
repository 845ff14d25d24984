pub mod State
pub mod Outcomes
pub mod Instructions
pub mod Effects
pub mod Table
pub mod Run
pub mod Inner
pub mod Machines
