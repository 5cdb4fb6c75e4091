pub mod Heads
pub mod RoundTrip
