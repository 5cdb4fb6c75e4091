pub mod Types
pub mod Figure
pub mod Steps
pub mod Alone
pub mod OneByOne
pub mod Counted
