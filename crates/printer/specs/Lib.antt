pub mod Types
pub mod Text
pub mod Lines
pub mod Words
