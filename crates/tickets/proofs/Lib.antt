-- What callers of the tables rely on.
pub mod Tables
