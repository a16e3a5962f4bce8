pub mod InTurn
pub mod Feeders
pub mod Takers
pub mod Dealt
pub mod Lanes
pub mod Settled
