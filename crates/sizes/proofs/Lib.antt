pub mod AnswerLaws
pub mod PackedLaws
pub mod Sums
pub mod UnknownLaws
pub mod ValueSizes
