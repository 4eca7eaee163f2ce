pub mod ReadLemmas
pub mod GivenLemmas
pub mod PlayLemmas
