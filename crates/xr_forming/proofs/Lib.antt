pub mod More
pub mod Bytes
pub mod Times
pub mod There
pub mod Apart
pub mod Formed
pub mod FormedArray
