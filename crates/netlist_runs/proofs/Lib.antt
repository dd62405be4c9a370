mod Firsts
mod Driven
mod Behaving
mod Linked
mod WorkedDesign
mod Worked
