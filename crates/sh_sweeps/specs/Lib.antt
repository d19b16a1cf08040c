pub mod Asked
pub mod Sweeps
pub mod Plain
pub mod There
pub mod Next
pub mod Sides
