-- What a host may lean on besides the promises of the two calls.
pub mod Zero
pub mod Whole
pub mod Kept
pub mod Only
