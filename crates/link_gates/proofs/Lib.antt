pub mod Owners
pub mod Standing
pub mod GatePlaces
mod EnableForms
mod Passing
mod Fronts
mod Captured
mod Gating
pub mod OneGated
mod Worked
