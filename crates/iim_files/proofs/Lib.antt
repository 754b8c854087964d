mod Lines
mod Writing
mod Runs
