mod Sums
mod Picks
mod Rules
mod Courses
mod Travels
