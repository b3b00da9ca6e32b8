-- The definitions of rings and queues.
pub mod Queue
pub mod Ring
