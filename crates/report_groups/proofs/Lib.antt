mod Counting
mod GroupSteps
mod Worked
mod Ranking
mod WorkedDifferences
mod WorkedRemarks
