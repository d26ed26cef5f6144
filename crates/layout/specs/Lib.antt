pub mod Kinds
pub mod Tree
pub mod Table
pub mod Legal
pub mod Steps
