pub mod FilledLanes
pub mod OpenedLanes
pub mod RisingParts
