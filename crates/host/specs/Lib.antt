pub mod Makes
pub mod Lots
pub mod Works
pub mod Scripts
pub mod Prints
pub mod Tasks
