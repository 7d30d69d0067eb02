pub mod Contested
pub mod Everywhere
pub mod Orders
