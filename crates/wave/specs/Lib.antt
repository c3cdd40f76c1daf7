pub mod Quarter
pub mod Wave
pub mod Phases
