pub mod LeftBehind
pub mod Emulation
