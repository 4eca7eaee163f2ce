pub mod LineLemmas
pub mod TokenLemmas
pub mod NumberLemmas
pub mod OkLemmas
pub mod NextLemmas
