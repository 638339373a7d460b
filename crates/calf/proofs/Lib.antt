pub mod OneAnswer
pub mod ToldLaws
