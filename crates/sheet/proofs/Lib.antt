pub mod Standing
pub mod Shifting
pub mod Refilling
pub mod Paging
pub mod Running
pub mod Prints
