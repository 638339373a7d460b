pub mod FixedLaws
pub mod FormatLaws
pub mod FoundLaws
pub mod OneAnswer
pub mod PutLaws
pub mod VarintSteps
pub mod VarintStores
pub mod ZigzagLaws
