mod Rest
mod Stored
