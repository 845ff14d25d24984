pub mod Frame
pub mod Window
pub mod Follows
pub mod StraightCode
