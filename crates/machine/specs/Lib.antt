pub mod Machine
pub mod Packets
pub mod Cycle
pub mod Tables
pub mod Moves
pub mod Calls
pub mod Runs
pub mod Promise
