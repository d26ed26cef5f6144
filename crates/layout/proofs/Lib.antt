-- What the proofs of several functions use, and what the crates above cite of a legal table.
pub mod Facts
pub mod Numbered
pub mod Bad
pub mod Trees
pub mod Tables
pub mod Lengths
pub mod Only
