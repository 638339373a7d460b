pub mod Layout
pub mod Search
pub mod Tables
pub mod Told
