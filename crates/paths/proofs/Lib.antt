pub mod Paths
pub mod Joints
