-- The definitions of what is found of recorded scripts.
pub mod Calls
pub mod Terminals
pub mod Verdict
