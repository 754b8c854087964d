pub mod Imports
pub mod Audits
pub mod Runs
pub mod ShownScripts
