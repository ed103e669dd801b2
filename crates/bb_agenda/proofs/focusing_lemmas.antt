pub mod Laws
pub mod Rows
pub mod AimLemmas
pub mod ShiftLemmas
pub mod SumLemmas
pub mod WeightLemmas
