pub mod AskedLaws
pub mod CallLaws
pub mod ClassifyLaws
pub mod CongLaws
pub mod EmitLaws
pub mod FieldTurn
pub mod KindTests
pub mod Turn
