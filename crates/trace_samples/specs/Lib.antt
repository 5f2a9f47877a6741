pub mod SampleLayout
pub mod Told
