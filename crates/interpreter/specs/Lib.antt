pub mod Sheet
pub mod Playing
pub mod Rounds
