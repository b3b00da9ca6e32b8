-- The definitions of hosts and terminals.
pub mod Books
pub mod Calls
pub mod Command
pub mod Fault
pub mod Interaction
pub mod Journal
pub mod State
