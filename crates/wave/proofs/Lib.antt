pub mod Every
pub mod Sines
pub mod Waves
