pub mod answers
pub mod lines
pub mod program
pub mod session
