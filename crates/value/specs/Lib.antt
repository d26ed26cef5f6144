pub mod Walk
pub mod Write
pub mod Steps
pub mod Stores
