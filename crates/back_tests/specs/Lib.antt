pub mod Copying
pub mod FourNodes
