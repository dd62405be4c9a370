mod Following
mod Counting
mod Keeping
mod Joined
mod Bundling
mod Adding
mod Worked
