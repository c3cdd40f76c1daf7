pub mod Works
pub mod Scripts
