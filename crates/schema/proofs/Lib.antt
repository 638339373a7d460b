pub mod AskingLaws
pub mod FindLaws
pub mod MakingLaws
pub mod SearchLaws
pub mod StoredLaws
pub mod TableLaws
pub mod ToldLaws
pub mod ValidLaws
