pub mod Quantizing
pub mod Ends
pub mod Wires
