-- The definitions of runs of calls.
pub mod Answers
pub mod Calls
pub mod Cases
pub mod Follows
pub mod Laws
pub mod Original
pub mod Restarts
pub mod Runs
pub mod Turns
pub mod Values
