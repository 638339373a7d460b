pub mod FieldCases
pub mod FieldLaws
