pub mod StepLaws
pub mod MessageLaws
