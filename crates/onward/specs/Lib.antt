pub mod Onward
pub mod Under
pub mod Generations
