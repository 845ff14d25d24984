pub mod Words
pub mod Operations
