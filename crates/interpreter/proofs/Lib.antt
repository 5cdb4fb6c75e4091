pub mod Tries
pub mod Playing
pub mod Sheets
pub mod Printed
pub mod Progress
pub mod Rounds
pub mod Examples
