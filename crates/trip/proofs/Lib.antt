pub mod CopyLaws
pub mod ReadBack
pub mod TripLaws
