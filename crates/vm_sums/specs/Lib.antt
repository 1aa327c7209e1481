pub mod Hash
pub mod Sums
pub mod Summed
