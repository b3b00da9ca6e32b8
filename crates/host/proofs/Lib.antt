-- What is shown of the books.
pub mod Rosters
pub mod Spawns
