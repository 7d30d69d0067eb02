pub mod Inside
pub mod Worked
