pub mod Answers
pub mod FormatTold
pub mod Reached
