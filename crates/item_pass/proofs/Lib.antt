pub mod PassSteps
