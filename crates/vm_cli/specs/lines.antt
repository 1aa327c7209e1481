-- Lines, and what their words ask for.
pub mod Asking
pub mod Escapes
pub mod Input
pub mod Lines
pub mod Mistakes
pub mod Names
pub mod Numbers
pub mod Pieces
pub mod Requested
pub mod Requests
pub mod Settlements
pub mod Spaces
