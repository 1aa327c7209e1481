pub mod Answers
pub mod Lines
pub mod Exports
pub mod Handles
pub mod Holding
pub mod Images
pub mod Outcomes
