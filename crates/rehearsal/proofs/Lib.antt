-- The lemmas that several answers share.
pub mod Digits
pub mod Splits
pub mod Reading
pub mod Runs
