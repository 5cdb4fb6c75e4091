pub mod Types
pub mod Meanings
pub mod BySheet
pub mod Sheets
