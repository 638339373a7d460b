pub mod KnownLaws
pub mod PastLaws
pub mod SpanLaws
pub mod VarintTurn
pub mod GroupTurn
pub mod SkipAnswers
pub mod DocumentTurn
pub mod DocumentAnswers
