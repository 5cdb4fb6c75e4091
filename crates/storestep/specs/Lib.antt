pub mod Attempt
