pub mod Types
pub mod Commands
pub mod Taking
