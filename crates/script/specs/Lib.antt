pub mod Packets
pub mod Mnemonics
pub mod Numbers
pub mod Plays
pub mod Prints
pub mod Sides
pub mod Lines
pub mod Logs
