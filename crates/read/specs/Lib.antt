pub mod Answers
pub mod Emit
pub mod Prepared
