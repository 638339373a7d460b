pub mod TextLaws
pub mod WatchedLaws
