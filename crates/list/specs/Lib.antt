pub mod Told
pub mod Checking
