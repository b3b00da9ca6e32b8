-- The definitions of the task of a job.
pub mod Conducts
pub mod Messages
pub mod Performs
pub mod Task
pub mod View
