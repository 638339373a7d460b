pub mod SizeParts
pub mod Answers
