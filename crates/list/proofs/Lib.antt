pub mod FitLaws
pub mod RecordLaws
pub mod OpenLaws
pub mod ElementTurn
pub mod RunTurn
pub mod CallLaws
