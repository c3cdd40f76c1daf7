pub mod Keeps
pub mod Closes
pub mod Runs
pub mod Desks
