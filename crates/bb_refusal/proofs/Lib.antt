-- texts of several pieces
pub mod RefusalLemmas
