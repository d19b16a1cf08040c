pub mod Fill
pub mod Singles
