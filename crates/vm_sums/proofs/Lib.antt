pub mod ExchangeLemmas
pub mod HashLemmas
pub mod ShownLemmas
