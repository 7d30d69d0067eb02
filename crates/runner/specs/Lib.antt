pub mod Running
pub mod Steps
pub mod Printed
pub mod Told
