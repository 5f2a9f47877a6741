pub mod GoneThrough
