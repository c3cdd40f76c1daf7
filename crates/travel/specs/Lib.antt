pub mod Plans
pub mod Rows
pub mod Runs
