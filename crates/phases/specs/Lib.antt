pub mod Types
pub mod Placed
pub mod Ready
