mod Counts
mod Heard
mod Proved
mod Supply
