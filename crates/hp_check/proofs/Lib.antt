mod Stepping
mod Stopping
