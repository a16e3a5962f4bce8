pub mod FrontLemmas
pub mod LaneLemmas
pub mod MessageLemmas
pub mod SettleLemmas
pub mod TakeLemmas
pub mod TurnLemmas
