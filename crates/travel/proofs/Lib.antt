pub mod Follows
pub mod Takes
