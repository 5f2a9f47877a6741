pub mod Pids
pub mod PlaceDigits
pub mod TaskTexts
pub mod UsualFronts
