pub mod Sights
pub mod Swept
pub mod Cutting
pub mod Calls
