pub mod Lengths
pub mod Encoder
pub mod Finish
pub mod Whole
