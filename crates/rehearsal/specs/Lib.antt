-- The definitions that the contracts cite.
pub mod Tokens
pub mod Lines
pub mod Script
pub mod Trees
pub mod Plays
pub mod Printed
pub mod View
