-- Laws of the encoder.
pub mod Container
pub mod Round
pub mod Kept
pub mod Only
