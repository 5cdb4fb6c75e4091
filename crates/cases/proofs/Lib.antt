pub mod Starred
pub mod Damage
pub mod Scans
