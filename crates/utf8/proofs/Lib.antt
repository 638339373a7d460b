pub mod Mask
pub mod Tables
pub mod TextLaws
