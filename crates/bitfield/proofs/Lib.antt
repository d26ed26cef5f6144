-- Laws on bits and bytes, and what the definitions say of the standard.
pub mod Tops
pub mod Bodies
pub mod Standard
pub mod Bools
pub mod Numbers
pub mod Places
pub mod Loops
pub mod Clean
pub mod Ties
pub mod Marks
pub mod Tolds
pub mod Results
pub mod Serial
pub mod Kept
pub mod Only
