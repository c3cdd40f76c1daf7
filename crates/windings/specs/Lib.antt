pub mod Settings
pub mod Rows
