mod Each
mod Shifts
mod Rounds
mod Blocks
mod Runs
