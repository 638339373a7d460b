pub mod OlderLaws
pub mod OnwardLaws
pub mod OnwardCases
pub mod RoomLaws
pub mod UnderLaws
pub mod GenerationLaws
