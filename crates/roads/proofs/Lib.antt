mod Judging
mod Filling
mod Empties
