-- The definitions of the job.
pub mod Answers
pub mod Errors
pub mod Job
pub mod Laws
pub mod Mailbox
pub mod Sends
pub mod Sound
pub mod Steps
pub mod Timers
pub mod View
