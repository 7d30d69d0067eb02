mod FrameDigits
mod Tried
