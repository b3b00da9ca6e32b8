-- What is shown of whole runs: what a call counts, how a history grows, and what a step leaves.
pub mod Arms
pub mod Cases
pub mod Flagged
pub mod Followed
pub mod Histories
pub mod Laws
pub mod Likeness
pub mod Mailboxes
pub mod Originals
pub mod Sent
pub mod Steps
