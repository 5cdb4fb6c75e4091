pub mod Head
pub mod StateWords
