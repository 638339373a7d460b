pub mod Passed
pub mod Spans
