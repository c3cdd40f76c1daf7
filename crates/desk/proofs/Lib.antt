pub mod Marks
pub mod Taken
pub mod Elsewhere
