pub mod Faults
pub mod OnePass
pub mod Tops
