pub mod Applied
pub mod Left
