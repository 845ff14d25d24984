pub mod Ends
pub mod Given
