pub mod Apart
pub mod Blocks
pub mod Digits
pub mod Fields
pub mod OneFrame
pub mod Spelling
