pub mod Handing
pub mod HandingLaws
