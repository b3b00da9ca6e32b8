-- What is shown of the parts of a job: the books, the mailbox, and what a step was.
pub mod Books
pub mod Graces
pub mod Mailboxes
pub mod Steps
pub mod Ways
