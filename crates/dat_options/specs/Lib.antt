pub mod Front
pub mod Place
pub mod Answer
pub mod Options
pub mod OneOption
pub mod Table
