pub mod Quantize
pub mod Pairs
pub mod Levels
pub mod Dac
pub mod Pulse
pub mod Pwm
pub mod Codes
pub mod Wiring
