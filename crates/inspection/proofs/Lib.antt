pub mod ChainTurns
pub mod LevelTurns
pub mod NodeTurns
pub mod OnePass
pub mod TopTurns
