-- What is shown of the children of the simulated host.
pub mod Places
