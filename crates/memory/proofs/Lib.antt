pub mod Tests
pub mod Memory
pub mod Lengths
pub mod Copies
