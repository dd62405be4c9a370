mod Rests
mod Decimals
mod Parts
mod ListSteps
mod Worked
mod WorkedDays
