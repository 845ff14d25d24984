pub mod Constants
pub mod Routines
pub mod Page
pub mod Shorts
