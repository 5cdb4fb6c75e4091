pub mod Back
pub mod Known
pub mod Laws
pub mod Parts
pub mod Whole
pub mod Written
