pub mod LookTurns
