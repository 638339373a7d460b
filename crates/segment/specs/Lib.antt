pub mod Segment
pub mod Cut
pub mod Emit
pub mod Judging
