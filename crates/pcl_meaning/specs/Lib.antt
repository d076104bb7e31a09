pub mod PageTexts
pub mod JobTexts
