use Rattle.fmt_literal.specs.declared.ckind.CKind.TheVariants.{I32, U32, I64, U64}
use Rattle.fmt_eval.specs.Numbers.{IsReduced, reduced}
use Rattle.fmt_eval.proofs.ReducedLaws.{is_u32, is_u64, is_i32, is_i64}
use Rattle.fmt_eval.proofs.laws.reduced_is.Goals as goal

pub returns : goal.returns
returns c kind z = elim kind as (λ k. IsReduced k z (reduced k z)) [ I32 ↦ is_i32 z | U32 ↦ is_u32 z | I64 ↦ is_i64 z | U64 ↦ is_u64 z ]
