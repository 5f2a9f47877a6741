pub mod LanesInRow
