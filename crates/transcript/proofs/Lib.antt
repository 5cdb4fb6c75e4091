pub mod Meanings
pub mod Steps
pub mod Lengths
pub mod BySheet
pub mod Plain
pub mod Sheets
