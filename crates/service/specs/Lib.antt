pub mod Rounds
pub mod Turns
