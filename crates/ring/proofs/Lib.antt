-- What is shown of the places of a ring, and of what a queue holds.
pub mod Held
pub mod Items
