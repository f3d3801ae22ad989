pub mod Multiples
mod ProductSteps
