mod LowDegrees
mod Texts
