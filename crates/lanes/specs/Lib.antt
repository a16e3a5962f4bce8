pub mod Messages
pub mod Lane
pub mod Turns
pub mod Takes
pub mod Rings
pub mod Hands
pub mod Ends
pub mod Settled
