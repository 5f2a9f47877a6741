-- Trees with their constant parts written out.
use Rattle.std.specs.Prelude.{◌≡◌, true, false, List}
use Rattle.fmt_expr.specs.Tree.{Tree, number, literal, field_number, field_text, field_bytes, element, len_of, prefix, cast, chain, choice, flags, symbolic, hex, array, Operands, no_operands, operand, Entries, no_entries, entry}
use Rattle.fmt_expr.specs.TreeView.{operands_of, entries_of}
use Rattle.fmt_expr.specs.declared.expr.Operand.{Operand}
use Rattle.fmt_expr.specs.declared.expr.Entry.{Entry}
use Rattle.fmt_fold.specs.Constants.{is_written, all_written, is_fixed, is_constant, all_constant}
use Rattle.fmt_fold.specs.Same.{IsSame, SameOperands, SameEntries}

-- what holds of a tree and of each of its parts, at any depth
abbrev mutual
  pub EachPart : (Tree → Type 0) → Tree → Type 0
  EachPart P (number bits kind) = P (number bits kind)
  EachPart P (literal text) = P (literal text)
  EachPart P (field_number f) = P (field_number f)
  EachPart P (field_text f) = P (field_text f)
  EachPart P (field_bytes f) = P (field_bytes f)
  EachPart P (element f index) = P (element f index) × EachPart P index
  EachPart P (len_of f) = P (len_of f)
  EachPart P (prefix op t) = P (prefix op t) × EachPart P t
  EachPart P (cast to t) = P (cast to t) × EachPart P t
  EachPart P (chain t rest) = P (chain t rest) × EachPart P t × EachOperand P rest
  EachPart P (choice test one other) = P (choice test one other) × EachPart P test × EachPart P one × EachPart P other
  EachPart P (flags t between es) = P (flags t between es) × EachPart P t × EachEntry P es
  EachPart P (symbolic t es) = P (symbolic t es) × EachPart P t × EachEntry P es
  EachPart P (hex bytes count) = P (hex bytes count) × EachPart P bytes × EachPart P count
  EachPart P (array bytes count size) = P (array bytes count size) × EachPart P bytes × EachPart P count × EachPart P size

  pub EachOperand : (Tree → Type 0) → Operands → Type 0
  EachOperand P no_operands = Unit {0}
  EachOperand P (operand op t rest) = EachPart P t × EachOperand P rest

  pub EachEntry : (Tree → Type 0) → Entries → Type 0
  EachEntry P no_entries = Unit {0}
  EachEntry P (entry t text rest) = EachPart P t × EachEntry P rest

-- a number that reads no record is written out
abbrev pub IsNoneLeft : Tree → Type 0
IsNoneLeft t = is_constant t ≡ true → is_written t ≡ true

-- a tree made from another: the same over every record, with each constant part written out
pub record IsFolded (made t : Tree) : Type 0 where
  pub same : IsSame made t
  pub written : is_constant t ≡ true → is_written made ≡ true
  pub parts : EachPart IsNoneLeft made

pub record FoldedOperands (made os : List Operand) : Type 0 where
  pub same : SameOperands made os
  pub written : all_constant (operands_of os) ≡ true → all_written (operands_of made) ≡ true
  pub parts : EachOperand IsNoneLeft (operands_of made)

pub record FoldedEntries (made es : List Entry) : Type 0 where
  pub same : SameEntries made es
  pub parts : EachEntry IsNoneLeft (entries_of made)

-- a tree that is written out where it is made of numbers that are, and stays as it is elsewhere
pub record IsSettled (made t : Tree) : Type 0 where
  pub same : IsSame made t
  pub written : is_fixed t ≡ true → is_written made ≡ true
  pub kept : is_fixed t ≡ false → made ≡ t
