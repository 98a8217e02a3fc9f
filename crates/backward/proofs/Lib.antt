pub mod OneStep
pub mod BetweenSteps
