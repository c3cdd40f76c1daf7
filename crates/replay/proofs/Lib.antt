pub mod Writes
pub mod Frame
