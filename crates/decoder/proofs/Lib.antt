pub mod Bytes
pub mod Decoding
pub mod Examples
pub mod Pieces
pub mod Positions
