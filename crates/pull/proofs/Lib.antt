pub mod ReaderLaws
pub mod SkipNumbers
pub mod StepLaws
