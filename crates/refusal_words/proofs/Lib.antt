mod Decimals
mod PlaceLemmas
mod Worked
