pub mod Laws
pub mod Only
