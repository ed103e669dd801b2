-- how far the bytes of a code show no fault
pub mod Early
