pub mod Arrivals
pub mod OltTurns
pub mod UnitTurns
