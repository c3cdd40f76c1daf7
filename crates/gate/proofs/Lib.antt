pub mod Bits
pub mod Equalities
pub mod Steps
