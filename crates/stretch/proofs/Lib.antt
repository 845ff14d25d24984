pub mod Reaching
pub mod Under
