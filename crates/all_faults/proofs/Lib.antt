pub mod LeftLemmas
pub mod FaultLemmas
