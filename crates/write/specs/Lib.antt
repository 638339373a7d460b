pub mod Backward
pub mod Summing
