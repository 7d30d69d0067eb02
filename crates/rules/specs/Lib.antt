pub mod Arbiters
pub mod Routes
pub mod Orders
pub mod Priorities
pub mod Contested
pub mod Upward
pub mod Nearer
pub mod Lawful
