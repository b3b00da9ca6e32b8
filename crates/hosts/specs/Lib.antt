-- The definitions of the simulated host and of the prepared host.
pub mod Children
pub mod Rosters
pub mod Signals
pub mod Simulated
pub mod Book
pub mod Numbers
pub mod Prepared
pub mod PreparedBook
