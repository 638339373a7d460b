-- The pull reader: a state, what it may be asked, and what a step says and where it leaves the reader. Assumes nothing: these are definitions. Public promises cite it.
use Rattle.std.specs.Prelude.{ℕ, ◌+◌, List, [], length, drop, leb, ltb, if◌then◌else◌}
use Rattle.spec.specs.Names.{most_levels, not_utf8, too_deep, too_large}
use Rattle.spec.specs.Base.{limit, part, Read, Took, No}
use Rattle.spec.specs.Varint.{varint32, varint64}
use Rattle.spec.specs.Utf8.{utf8, valid_end}
use Rattle.spec.specs.Kind.{Scalar, scalar}
use Rattle.spec.specs.Skip.{content, skip_field_for_tag}

-- its bytes, a position in them, and its level
pub record Reader : Type 0 where
  pub bytes : List ℕ
  pub at : ℕ
  pub level : ℕ

-- the tag as it stands, or the end; a scalar; a content; the field after a tag that was read
pub data Ask : Type 0 where
  raw_tag : Ask
  value : Scalar → Ask
  bytes : Ask
  string : Ask
  skip : ℕ → Ask

-- What a step says: a number (a raw tag, a value, how many bytes were skipped), a content's bounds in the reader's own bytes, that the bytes
-- are at their end, or a refusal's number and place.
pub data Said : Type 0 where
  Number : ℕ → Said
  Content : (start stop : ℕ) → Said
  End : Said
  Refused : (number place : ℕ) → Said

-- what is said, and the position then
pub record Moved : Type 0 where
  pub said : Said
  pub at : ℕ

abbrev pub says : Said → ℕ → Moved
says x at = record { said = x; at = at }

-- A step at a position moves past what it took; a refused one stays, and its place is the position, except on a broken character.
unfoldable pub moved : ℕ → (ℕ → ℕ → Said) → Read → Moved
moved at f (Took v n) = says (f v n) (at + n)
moved at f (No k) = says (Refused k at) at

abbrev pub numbered : ℕ → Read → Moved
numbered at r = moved at (λ v n. Number v) r

abbrev pub bounded : ℕ → Read → Moved
bounded at r = moved at (λ a z. Content (at + a) (at + z)) r

-- a content that is no UTF-8 is refused 6, at its first character that is broken; the step stays all the same
unfoldable pub spelled : ℕ → List ℕ → Read → Moved
spelled at s (Took a z) = if utf8 (part a z s) then bounded at (Took a z) else says (Refused not_utf8 (at + valid_end a z s)) at
spelled at s (No k) = bounded at (No k)

-- What is asked of the bytes s at a position and a level. The raw tag is any varint32; a skip answers how many bytes it used.
unfoldable pub step_at : List ℕ → (at level : ℕ) → Ask → Moved
step_at s at level raw_tag = if leb (length s) at then says End at else numbered at (varint32 (drop at s))
step_at s at level (value c) = numbered at (scalar c (drop at s))
step_at s at level bytes = bounded at (content varint32 (drop at s))
step_at s at level string = spelled at (drop at s) (content varint32 (drop at s))
step_at s at level (skip t) = moved at (λ v n. Number n) (skip_field_for_tag t level (drop at s))

-- a message's content: 7, then its length, then the bytes that are left
unfoldable pub enter_at : List ℕ → (at level : ℕ) → Moved
enter_at s at level = if leb most_levels level then says (Refused too_deep at) at else bounded at (content varint64 (drop at s))

-- ---- the calls on a reader

abbrev pub reader : List ℕ → ℕ → ℕ → Reader
reader s at level = record { bytes = s; at = at; level = level }

-- it opens at position 0 and level 0; above the size limit it is refused 11, and over no bytes
pub record Opened : Type 0 where
  pub number : ℕ
  pub reader : Reader

unfoldable pub opened : List ℕ → Opened
opened s =
    if ltb limit (length s)
    then record { number = too_large; reader = reader [] 0 0 }
    else record { number = 0; reader = reader s 0 0 }

pub record Stepped : Type 0 where
  pub said : Said
  pub reader : Reader

unfoldable pub stepped : Reader → Ask → Stepped
stepped r ask =
    let m = step_at r.bytes r.at r.level ask in
    record { said = m.said; reader = reader r.bytes m.at r.level }

-- Entering gives a reader over the content, one level up, and moves the outer one past it. Where it is refused the inner one has no bytes.
pub record Entered : Type 0 where
  pub said : Said
  pub inner : Reader
  pub outer : Reader

unfoldable pub inner_of : Reader → Said → Reader
inner_of r (Content a z) = reader (part a z r.bytes) 0 (r.level + 1)
inner_of r (Number v) = reader [] 0 r.level
inner_of r End = reader [] 0 r.level
inner_of r (Refused k p) = reader [] 0 r.level

unfoldable pub entered : Reader → Entered
entered r =
    let m = enter_at r.bytes r.at r.level in
    record { said = m.said; inner = inner_of r m.said; outer = reader r.bytes m.at r.level }
