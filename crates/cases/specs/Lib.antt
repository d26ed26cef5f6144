pub mod Records
pub mod Answers
