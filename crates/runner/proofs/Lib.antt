mod Lines
mod Planned
mod Taken
