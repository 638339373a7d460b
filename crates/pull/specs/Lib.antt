pub mod Reader
pub mod Told
