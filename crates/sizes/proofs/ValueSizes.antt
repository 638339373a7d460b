-- Laws of the sizes of values: a varint takes at most ten bytes, the wire type of a kind says how its size is found, and cutting a part off above
-- the limit does not change whether the whole is within it. Assumes nothing.
use Prim.Native.Nat.{ℕ, ◌+◌, ◌*◌, ◌≤◌}
use mathlib.Core.Path.{◌≡◌, refl, sym, ap, ap₂, ◌∙◌}
use mathlib.Core.Bool.{Bool, true, false}
use native.Mathlib.Decide.{dec_lt, dec_le}
use native.Mathlib.Omega.{arith}
use lib.Dec.{eqb}
use lib.ListN.{length, get_or-eq_default}
use borrow.Author.Tests.{le-leb, lt-leb}
use Rattle.spec.specs.Names.{delimited_wire, fixed32_wire, fixed64_wire, varint_wire, all_kinds, sint32_kind, sint64_kind}
use Rattle.std.specs.Prelude.{if◌then◌else◌}
use Rattle.spec.specs.Base.{between, limit, limited, Took}
use Rattle.spec.specs.Varint.{size, tag_size, zigzag}
use Rattle.spec.specs.Kind.{int32, uint32, uint64, bool, sint32, sint64, fixed32, sfixed32, fixed64, Shape, one, other, string, bytes, message, packed, start_group, end_group, nothing, shapes, shape, wire}
use Rattle.spec.specs.Sizes.{scalar_size, prefixed_size, value_size, field_size}
use Rattle.spec.proofs.KindLaws.{wire_one, wire_of, wire_shape}
use Rattle.sizes.specs.SizeParts.{capped, coded}
use Rattle.spec.proofs.Below.{equal_below}

pub size_most : (v : ℕ) → size v ≤ 10
unfolding size
size_most v = omega arith

-- ---- by wire type

unfoldable pub zigzags : Shape → Bool
zigzags (one int32) = false
zigzags (one uint32) = false
zigzags (one uint64) = false
zigzags (one bool) = false
zigzags (one sint32) = true
zigzags (one sint64) = true
zigzags (one fixed32) = false
zigzags (one sfixed32) = false
zigzags (one fixed64) = false
zigzags (other x) = false

bit : Bool → ℕ
bit true = 1
bit false = 0

bit_once : (a b : Bool) → bit a ≡ bit b → a ≡ b
unfolding bit
bit_once true true e = refl
bit_once true false e = absurd (omega arith)
bit_once false true e = absurd (omega arith)
bit_once false false e = refl

pub zigzag_kind : (k : ℕ) → zigzags (shape k) ≡ between sint32_kind sint64_kind k
unfolding shape shapes zigzags bit
zigzag_kind k =
    elim (dec_lt k all_kinds) [
      | yes h ↦ bit_once (zigzags (shape k)) (between sint32_kind sint64_kind k) (equal_below (λ i. bit (zigzags (shape i))) (λ i. bit (between sint32_kind sint64_kind i)) all_kinds k tt h)
      | no h ↦
          let past : length shapes ≤ k = omega arith in
          ap zigzags (get_or-eq_default shapes (other nothing) past) ∙ simp (le-leb sint32_kind k (omega arith), lt-leb k sint64_kind (omega arith))
    ]

unfoldable by_wire : ℕ → Bool → ℕ → ℕ
by_wire w z v = if eqb w varint_wire then size (if z then zigzag v else v) else if eqb w fixed64_wire then 8 else if eqb w delimited_wire then prefixed_size v else if eqb w fixed32_wire then 4 else 0

by_wire_lem : (x : Shape) (v : ℕ) → value_size x v ≡ by_wire (wire_of x) (zigzags x) v
unfolding value_size scalar_size wire_of wire_one zigzags by_wire
by_wire_lem (one int32) v = refl
by_wire_lem (one uint32) v = refl
by_wire_lem (one uint64) v = refl
by_wire_lem (one bool) v = refl
by_wire_lem (one sint32) v = refl
by_wire_lem (one sint64) v = refl
by_wire_lem (one fixed32) v = refl
by_wire_lem (one sfixed32) v = refl
by_wire_lem (one fixed64) v = refl
by_wire_lem (other string) v = refl
by_wire_lem (other bytes) v = refl
by_wire_lem (other message) v = refl
by_wire_lem (other packed) v = refl
by_wire_lem (other start_group) v = refl
by_wire_lem (other end_group) v = refl
by_wire_lem (other nothing) v = refl

-- the size of a value, as the wire type of its kind finds it
pub value_by_wire : (k v w : ℕ) → w ≡ wire k
    → value_size (shape k) v ≡ (if eqb w varint_wire then size (coded k v) else if eqb w fixed64_wire then 8 else if eqb w delimited_wire then prefixed_size v else if eqb w fixed32_wire then 4 else 0)
unfolding by_wire
value_by_wire k v w e = by_wire_lem (shape k) v ∙ ap₂ (λ (u : ℕ) (z : Bool). by_wire u z v) (sym (e ∙ wire_shape k)) (zigzag_kind k)

-- ---- cut off above the limit

pub capped_varint : (v : ℕ) → size v ≡ capped (size v)
capped_varint v = omega (arith, size_most v)

pub capped_prefixed : (n : ℕ) → capped (size (capped n) + capped n) ≡ capped (prefixed_size n)
unfolding prefixed_size
capped_prefixed n =
    elim (dec_le n limit) [
      | yes h ↦ let same : capped n ≡ n = omega arith in ap (λ (m : ℕ). capped (size m + m)) same
      | no h ↦ omega arith
    ]

pub limited_same : (m n : ℕ) → capped m ≡ capped n → limited m ≡ limited n
unfolding limited
limited_same m n e =
    elim (dec_le n limit) [
      | yes h ↦ let same : m ≡ n = omega arith in ap limited same
      | no h ↦ simp (lt-leb m limit (omega arith), lt-leb n limit (omega arith))
    ]

-- a part that is cut off
pub limited_capped : (m n : ℕ) → limited (m + capped n) ≡ limited (m + n)
limited_capped m n = limited_same (m + capped n) (m + n) (omega arith)

-- a number's field is within the limit
pub number_field : (kind number v n p : ℕ) → n ≡ tag_size number + size p → value_size (shape kind) v ≡ size p → Took n 0 ≡ field_size kind number v
unfolding field_size limited
number_field kind number v n p e f =
    let whole : tag_size number + value_size (shape kind) v ≡ n = omega arith in
    rw whole (simp (le-leb n limit (omega (arith, size_most (number * 8), size_most p))))
