pub mod RefusalLemmas
pub mod FindingLemmas
pub mod CheckLemmas
