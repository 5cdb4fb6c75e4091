pub mod Laws
pub mod Encoded
pub mod Lent
