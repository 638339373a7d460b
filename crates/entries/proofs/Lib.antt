pub mod CallLaws
pub mod CopyLaws
pub mod LentLaws
pub mod LookupLaws
pub mod NumbersLaws
pub mod StoringLaws
