pub mod AnswerLemmas
pub mod TopLemmas
pub mod FilterLemmas
pub mod FlashLemmas
pub mod OltLemmas
pub mod UnitLemmas
mod ShowLemmas
