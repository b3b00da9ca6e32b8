-- What the contracts cite.
pub mod Weights
pub mod Tickets
pub mod Searches
