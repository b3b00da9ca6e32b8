-- The definitions of the absent terminal and of the simulated one.
pub mod Absent
pub mod AbsentBook
pub mod Group
pub mod Session
pub mod Posix
pub mod View
pub mod Moves
pub mod Simulated
pub mod SimulatedBook
