pub mod Places
pub mod Chain
pub mod Clearance
pub mod Rules
pub mod Solids
pub mod Outline
