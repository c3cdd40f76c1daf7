pub mod StoppingDistance
pub mod Tester
pub mod Speed
pub mod Course
pub mod Search
