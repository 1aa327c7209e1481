pub mod CountLemmas
pub mod FlagLemmas
pub mod HeldLemmas
pub mod WordLemmas
