pub mod NumberLaws
pub mod CutLaws
pub mod CpuLaws
