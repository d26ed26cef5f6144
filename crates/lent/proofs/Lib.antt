-- What a refusal leaves, and that each contract has one answer.
pub mod Refusals
pub mod Only
