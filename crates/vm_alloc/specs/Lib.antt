pub mod Counts
pub mod Flags
pub mod Held
pub mod Marks
pub mod Words
