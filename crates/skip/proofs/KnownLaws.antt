-- What is refused is refused by one of the refusals, so that a refusal says as much as its number; and no refusal has the number 0. Assumes nothing.
use Prim.Native.Nat.{ℕ, zero, suc, ◌+◌, ◌%◌, ◌<◌}
use native.Mathlib.Omega.{arith}
use mathlib.Core.List.{List, [], ◌∷◌}
use lib.ListN.{length, drop}
use lib.Dec.{leb, ltb, eqb}
use Rattle.spec.specs.Names.{bad_tag, delimited_wire, end_group_wire, fixed32_wire, fixed64_wire, most_levels, start_group_wire, varint_wire}
use Rattle.spec.specs.Base.{limit, Read, Took, No, digit, require, longer, ◌>>=◌}
use Rattle.spec.specs.Varint.{varint, fixed, tag, good_tag}
use Rattle.spec.specs.Skip.{content, spanned, plain, skip_field, skip_group, inner_group, checked, skip_field_for_tag, read_unknown_or_skip_group}
use Rattle.spec.specs.Told.{number_of}
use Rattle.spec.specs.declared.refusals.Refusal.{Refusal}
use Rattle.spec.specs.declared.refusals.Refusal.TheVariants.{EndsEarly, BadVarint, BadTag, NoGroupOpen, OutOfRange, NotUtf8, TooDeep, NoRoom, InvalidSchema, InvalidList, TooLarge, OutputShort, BadMark, OtherVersion}
use Rattle.spec.proofs.Laws.{either_way}

pub some_number : (r : Refusal) → 0 < number_of r
some_number EndsEarly = omega arith
some_number BadVarint = omega arith
some_number BadTag = omega arith
some_number NoGroupOpen = omega arith
some_number OutOfRange = omega arith
some_number NotUtf8 = omega arith
some_number TooDeep = omega arith
some_number NoRoom = omega arith
some_number InvalidSchema = omega arith
some_number InvalidList = omega arith
some_number TooLarge = omega arith
some_number OutputShort = omega arith
some_number BadMark = omega arith
some_number OtherVersion = omega arith

pub data Known : Read → Type 0 where
  was_read : {v n : ℕ} → Known (Took v n)
  refused_by : (r : Refusal) → Known (No (number_of r))

known_digit : (base b : ℕ) {r : Read} → Known r → Known (digit base b r)
unfolding digit
known_digit base b was_read = was_read
known_digit base b (refused_by r) = refused_by r

known_longer : (n : ℕ) {r : Read} → Known r → Known (longer n r)
unfolding longer
known_longer n was_read = was_read
known_longer n (refused_by r) = refused_by r

known_next : {r : Read} {next : ℕ → ℕ → Read} → Known r → ((v n : ℕ) → Known (next v n)) → Known (r >>= next)
unfolding ◌>>=◌
known_next (was_read {v} {n}) f = known_longer n (f v n)
known_next (refused_by r) f = refused_by r

known_varint : (k last : ℕ) (s : List ℕ) → Known (varint k last s)
unfolding varint
known_varint k last [] = refused_by EndsEarly
known_varint zero last (b ∷ s) = either_way Known (leb b last) was_read (refused_by BadVarint)
known_varint (suc k) last (b ∷ s) = either_way Known (ltb b 128) was_read (known_digit 128 (b % 128) (known_varint k last s))

known_fixed : (n : ℕ) (s : List ℕ) → Known (fixed n s)
unfolding fixed
known_fixed zero s = was_read
known_fixed (suc n) [] = refused_by EndsEarly
known_fixed (suc n) (b ∷ s) = known_digit 256 b (known_fixed n s)

pub known_tag : (s : List ℕ) → Known (tag s)
unfolding tag require
known_tag s = go (known_varint 4 15 s)
  where
    go : {r : Read} → Known r → Known (require bad_tag good_tag r)
    go (was_read {v}) = either_way Known (good_tag v) was_read (refused_by BadTag)
    go (refused_by r) = refused_by r

pub known_content : (k last : ℕ) (s : List ℕ) → Known (content (varint k last) s)
unfolding content
known_content k last s = go (known_varint k last s)
  where
    go : {r : Read} → Known r → Known (spanned (length s) r)
    go (was_read {v} {n}) = either_way Known (leb (n + v) (length s)) was_read (refused_by EndsEarly)
    go (refused_by r) = refused_by r

known_plain : (w : ℕ) (s : List ℕ) → Known (plain w s)
unfolding plain
known_plain w s =
    either_way Known (eqb w varint_wire) (known_varint 9 1 s)
    (either_way Known (eqb w fixed64_wire) (known_fixed 8 s)
    (either_way Known (eqb w delimited_wire) (known_content 4 15 s)
    (either_way Known (eqb w fixed32_wire) (known_fixed 4 s) (refused_by NoGroupOpen))))

pub known_field : (group : ℕ → List ℕ → Read) (level w : ℕ) (s : List ℕ) → Known (group (level + 1) s) → Known (skip_field group level w s)
unfolding skip_field
known_field group level w s h =
    either_way Known (eqb w start_group_wire) (either_way Known (leb most_levels level) (refused_by TooDeep) h) (known_plain w s)

pub known_group : (k : ℕ) {at_end : Read} → Known at_end → (level : ℕ) (s : List ℕ) → Known (skip_group k at_end level s)
unfolding skip_group
known_group zero e level s = e
known_group (suc k) e level [] = e
known_group (suc k) e level (b ∷ s) =
    known_next (known_tag (b ∷ s)) λ t n. either_way Known (eqb (t % 8) end_group_wire) was_read
    (known_next (known_field _ level (t % 8) (drop n (b ∷ s)) (known_group k was_read (level + 1) (drop n (b ∷ s)))) λ v m. known_group k e level (drop (n + m) (b ∷ s)))

-- the two calls: too many bytes, then a bad tag, then what the field says
known_checked : (t : ℕ) (s : List ℕ) {r : Read} → Known r → Known (checked t s r)
known_checked t s h = either_way Known (ltb limit (length s)) (refused_by TooLarge) (either_way Known (good_tag t) h (refused_by BadTag))

module _ (t level : ℕ) (s : List ℕ) where
  pub known_skip : Known (skip_field_for_tag t level s)
  unfolding skip_field_for_tag
  known_skip = known_checked t s (known_field inner_group level (t % 8) s (known_group (length s) was_read (level + 1) s))

  pub known_unknown : Known (read_unknown_or_skip_group t level s)
  unfolding read_unknown_or_skip_group
  known_unknown = known_checked t s (either_way Known (eqb (t % 8) start_group_wire) (known_group (length s) (refused_by EndsEarly) level s) (known_plain (t % 8) s))
