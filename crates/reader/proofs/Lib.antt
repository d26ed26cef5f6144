-- How a reader goes on, and that each answer is the only one.
pub mod Readers
pub mod Only
