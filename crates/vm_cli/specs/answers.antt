-- Answers as text, and what was written of them.
pub mod Carried
pub mod Listings
pub mod Replies
