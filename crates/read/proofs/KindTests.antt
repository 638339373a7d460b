-- The table of kinds by tests on the kind, which is how code asks it. Assumes nothing.
use Prim.Native.Nat.{ℕ, ◌≤◌, ◌<◌, min}
use native.Mathlib.Decide.{dec_lt}
use native.Mathlib.Omega.{arith}
use mathlib.Core.Path.{◌≡◌, refl, sym, ap, ◌∙◌}
use mathlib.Core.Bool.{Bool, true, false, ◌||◌, false≢true}
use mathlib.Core.List.{List}
use lib.ListN.{get_or-eq_default}
use lib.Dec.{T, leb, ltb, eqb}
use borrow.Author.Tests.{lt-ltb, le-ltb, le-leb, lt-leb, ne_eqb, eqb-true}
use Rattle.spec.specs.Names.{all_kinds, bad_tag, bool_kind, bytes_kind, double_kind, enum_kind, fixed32_kind, fixed64_kind, float_kind, group_end, group_start, int32_kind, int64_kind, message_kind, out_of_range, packed_head, sfixed32_kind, sfixed64_kind, sint32_kind, sint64_kind, string_kind, uint32_kind, unknown_bytes, unknown_fixed32, unknown_fixed64, unknown_varint}
use Rattle.std.specs.Prelude.{if◌then◌else◌, Option, Some, None}
use Rattle.spec.specs.Base.{Read, Took, No, meaning, require}
use Rattle.spec.specs.Varint.{varint32, varint64, unzigzag}
use Rattle.spec.specs.Kind.{int32, uint32, uint64, bool, sint32, sint64, fixed32, sfixed32, fixed64, Shape, one, other, string, bytes, message, packed, start_group, end_group, nothing, shape, shapes, is_scalar, scalar, signed32}
use Rattle.spec.specs.Schema.{bit}
use Rattle.wire.specs.Reached.{varint_of}
use Rattle.spec.proofs.Below.{agree, equal_below}
use Rattle.read.specs.Answers.{has_length, scalar_of, meant_as, meant_by, is_int, is_fixed, must_fit32, is_varint32, int_by}

-- A number of the shape is decided by tests on the kind: where they agree on the kinds of the table, and no test is true after it.
by_table : (f : Shape → ℕ) (g : ℕ → ℕ) → T (agree (λ k. f (shape k)) g all_kinds) → ((k : ℕ) → all_kinds ≤ k → f (other nothing) ≡ g k) → (k : ℕ) → f (shape k) ≡ g k
unfolding shape shapes
by_table f g t h k =
    elim (dec_lt k all_kinds) [
      | yes l ↦ equal_below (λ n. f (shape n)) g all_kinds k t l
      | no l ↦ ap f (get_or-eq_default shapes (other nothing) {n = k} (omega arith)) ∙ h k (omega arith)
    ]

-- ---- heads

-- the one kind of a message's head, and of a packed field's; 0 for any other shape
unfoldable pub head_of : Shape → ℕ
head_of (one c) = 0
head_of (other string) = 0
head_of (other bytes) = 0
head_of (other message) = message_kind
head_of (other packed) = packed_head
head_of (other start_group) = 0
head_of (other end_group) = 0
head_of (other nothing) = 0

abbrev pub head_test : ℕ → ℕ
head_test k = if eqb k message_kind then message_kind else if eqb k packed_head then packed_head else 0

pub head_kind_lem : (k : ℕ) → head_of (shape k) ≡ head_test k
unfolding shape shapes head_of
head_kind_lem k = by_table head_of head_test tt (λ n h. rw (ne_eqb n message_kind (λ e. omega arith), ne_eqb n packed_head (λ e. omega arith))) k

-- the kind of a head
pub head_one : (k n : ℕ) → 0 < n → n ≡ head_test k → k ≡ n
head_one k n positive h = by (eqb k message_kind) (eqb k packed_head) refl refl
  where
    by : (p q : Bool) → eqb k message_kind ≡ p → eqb k packed_head ≡ q → k ≡ n
    by true q e f = eqb-true k message_kind e ∙ sym (h ∙ rw e refl)
    by false true e f = eqb-true k packed_head f ∙ sym (h ∙ rw (e, f) refl)
    by false false e f = let z : n ≡ 0 = h ∙ rw (e, f) refl in absurd (omega arith)

-- ---- what comes after a tag: 1 with a length, 2 and 3 for the ends of a group, 0 for a number and for nothing

unfoldable pub sort_of : Shape → ℕ
sort_of (one c) = 0
sort_of (other string) = 1
sort_of (other bytes) = 1
sort_of (other message) = 1
sort_of (other packed) = 1
sort_of (other start_group) = 2
sort_of (other end_group) = 3
sort_of (other nothing) = 0

abbrev pub sort_test : ℕ → ℕ
sort_test k = if has_length k then 1 else if eqb k group_start then 2 else if eqb k group_end then 3 else 0

pub sort_kind : (k : ℕ) → sort_of (shape k) ≡ sort_test k
unfolding shape shapes sort_of
sort_kind k =
    by_table sort_of sort_test tt
    (λ n h.
    rw (
      ne_eqb n string_kind (λ e. omega arith),
      ne_eqb n message_kind (λ e. omega arith),
      ne_eqb n bytes_kind (λ e. omega arith),
      ne_eqb n packed_head (λ e. omega arith),
      ne_eqb n unknown_bytes (λ e. omega arith),
      ne_eqb n group_start (λ e. omega arith),
      ne_eqb n group_end (λ e. omega arith),
    ))
    k

-- ---- what a varint says: 1 as it is, 2 as a bool, 3 by zigzag, 0 where values are no varints

unfoldable pub meaning_of : Shape → ℕ
meaning_of (one int32) = 1
meaning_of (one uint32) = 1
meaning_of (one uint64) = 1
meaning_of (one bool) = 2
meaning_of (one sint32) = 3
meaning_of (one sint64) = 3
meaning_of (one fixed32) = 0
meaning_of (one sfixed32) = 0
meaning_of (one fixed64) = 0
meaning_of (other x) = 0

abbrev pub meaning_test : ℕ → ℕ
meaning_test k =
    if ltb k fixed64_kind then (if ltb float_kind k then 1 else 0) else
    if eqb k bool_kind then 2 else
    if eqb k unknown_varint then 1 else
    if ltb k uint32_kind then 0 else
    if leb k enum_kind then 1 else
    if ltb k sint32_kind then 0 else
    if leb k sint64_kind then 3 else 0

abbrev pub meant_in : ℕ → ℕ → Option ℕ
meant_in n v = if eqb n 1 then Some v else if eqb n 2 then Some (min 1 v) else if eqb n 3 then Some (unzigzag v) else None

meant_shape : (x : Shape) (v : ℕ) → meant_by x v ≡ meant_in (meaning_of x) v
unfolding meant_by meant_as meaning_of
meant_shape (one int32) v = refl
meant_shape (one uint32) v = refl
meant_shape (one uint64) v = refl
meant_shape (one bool) v = refl
meant_shape (one sint32) v = refl
meant_shape (one sint64) v = refl
meant_shape (one fixed32) v = refl
meant_shape (one sfixed32) v = refl
meant_shape (one fixed64) v = refl
meant_shape (other x) v = refl

meaning_kind : (k : ℕ) → meaning_of (shape k) ≡ meaning_test k
unfolding shape shapes meaning_of
meaning_kind k =
    by_table meaning_of meaning_test tt
    (λ n h.
    rw (
      le-ltb n fixed64_kind (omega arith),
      ne_eqb n bool_kind (λ e. omega arith),
      ne_eqb n unknown_varint (λ e. omega arith),
      le-ltb n uint32_kind (omega arith),
      lt-leb n enum_kind (omega arith),
      le-ltb n sint32_kind (omega arith),
      lt-leb n sint64_kind (omega arith),
    ))
    k

meant_kind : (k v : ℕ) → meant_by (shape k) v ≡ meant_in (meaning_test k) v
meant_kind k v = meant_shape (shape k) v ∙ ap (λ (n : ℕ). meant_in n v) (meaning_kind k)

-- each answer of the tests

pub meant_first : (k v : ℕ) → int64_kind ≤ k → k < fixed64_kind → Some v ≡ meant_by (shape k) v
meant_first k v h l = sym (meant_kind k v ∙ rw (lt-ltb k fixed64_kind l, lt-ltb float_kind k h))

pub meant_zero : (k v : ℕ) → k < int64_kind → None ≡ meant_by (shape k) v
meant_zero k v h = sym (meant_kind k v ∙ rw (lt-ltb k fixed64_kind (omega arith), le-ltb float_kind k (omega arith)))

module _ (k v : ℕ) (above : fixed64_kind ≤ k) (no_bool : k ≡ bool_kind → ⊥) (known : k ≡ unknown_varint → ⊥) where
  pub meant_low : k < uint32_kind → None ≡ meant_by (shape k) v
  meant_low h = sym (meant_kind k v ∙ rw (le-ltb k fixed64_kind above, ne_eqb k bool_kind no_bool, ne_eqb k unknown_varint known, lt-ltb k uint32_kind h))

  pub meant_uint32_enum : uint32_kind ≤ k → k ≤ enum_kind → Some v ≡ meant_by (shape k) v
  meant_uint32_enum h l = sym (meant_kind k v ∙ rw (le-ltb k fixed64_kind above, ne_eqb k bool_kind no_bool, ne_eqb k unknown_varint known, le-ltb k uint32_kind h, le-leb k enum_kind l))

  pub meant_sfixed : enum_kind < k → k < sint32_kind → None ≡ meant_by (shape k) v
  meant_sfixed h l =
      sym (meant_kind k v ∙ rw (le-ltb k fixed64_kind above, ne_eqb k bool_kind no_bool, ne_eqb k unknown_varint known, le-ltb k uint32_kind (omega arith), lt-leb k enum_kind h, lt-ltb k sint32_kind l))

  pub meant_sint : sint32_kind ≤ k → k ≤ sint64_kind → Some (unzigzag v) ≡ meant_by (shape k) v
  meant_sint h l =
      sym
      (meant_kind k v
      ∙ rw (le-ltb k fixed64_kind above, ne_eqb k bool_kind no_bool, ne_eqb k unknown_varint known, le-ltb k uint32_kind (omega arith), lt-leb k enum_kind (omega arith), le-ltb k sint32_kind h, le-leb k sint64_kind l))

  pub meant_high : sint64_kind < k → None ≡ meant_by (shape k) v
  meant_high h =
      sym
      (meant_kind k v
      ∙ rw (le-ltb k fixed64_kind above, ne_eqb k bool_kind no_bool, ne_eqb k unknown_varint known, le-ltb k uint32_kind (omega arith), lt-leb k enum_kind (omega arith), le-ltb k sint32_kind (omega arith), lt-leb k sint64_kind h))

-- ---- a number of a fixed size

bit_back : (b : Bool) → b ≡ eqb (bit b) 1
bit_back true = refl
bit_back false = refl

abbrev pub fixed_test : ℕ → Bool
fixed_test k =
    eqb k double_kind || eqb k fixed64_kind || eqb k sfixed64_kind || eqb k unknown_fixed64 || eqb k float_kind || eqb k fixed32_kind || eqb k sfixed32_kind || eqb k unknown_fixed32

pub fixed_kind : (k : ℕ) → is_fixed (shape k) ≡ fixed_test k
unfolding shape shapes is_scalar meant_by meant_as
fixed_kind k =
    bit_back (is_fixed (shape k))
    ∙ ap (λ (n : ℕ). eqb n 1)
    (by_table (λ x. bit (is_fixed x)) (λ n. bit (fixed_test n)) tt
    (λ n h.
    rw (
      ne_eqb n double_kind (λ e. omega arith),
      ne_eqb n fixed64_kind (λ e. omega arith),
      ne_eqb n sfixed64_kind (λ e. omega arith),
      ne_eqb n unknown_fixed64 (λ e. omega arith),
      ne_eqb n float_kind (λ e. omega arith),
      ne_eqb n fixed32_kind (λ e. omega arith),
      ne_eqb n sfixed32_kind (λ e. omega arith),
      ne_eqb n unknown_fixed32 (λ e. omega arith),
    ))
    k)
    ∙ sym (bit_back (fixed_test k))

pub not_fixed : (k : ℕ) → (k ≡ double_kind → ⊥) → (k ≡ fixed64_kind → ⊥) → (k ≡ sfixed64_kind → ⊥) → (k ≡ unknown_fixed64 → ⊥) → (k ≡ float_kind → ⊥) → (k ≡ fixed32_kind → ⊥) → (k ≡ sfixed32_kind → ⊥)
    → (k ≡ unknown_fixed32 → ⊥) → is_fixed (shape k) ≡ false
not_fixed k a b c d e f g h =
    fixed_kind k
    ∙ rw (
      ne_eqb k double_kind a,
      ne_eqb k fixed64_kind b,
      ne_eqb k sfixed64_kind c,
      ne_eqb k unknown_fixed64 d,
      ne_eqb k float_kind e,
      ne_eqb k fixed32_kind f,
      ne_eqb k sfixed32_kind g,
      ne_eqb k unknown_fixed32 h,
    )

-- a shape whose values have no fixed size is an integer's, or no number's
pub int_or_nothing : (x : Shape) (s : List ℕ) → is_fixed x ≡ false → scalar_of x s ≡ (if is_int x then scalar_of x s else No bad_tag)
unfolding is_scalar scalar_of meant_by meant_as
int_or_nothing (one int32) s h = refl
int_or_nothing (one uint32) s h = refl
int_or_nothing (one uint64) s h = refl
int_or_nothing (one bool) s h = refl
int_or_nothing (one sint32) s h = refl
int_or_nothing (one sint64) s h = refl
int_or_nothing (one fixed32) s h = absurd (false≢true (sym h))
int_or_nothing (one sfixed32) s h = absurd (false≢true (sym h))
int_or_nothing (one fixed64) s h = absurd (false≢true (sym h))
int_or_nothing (other x) s h = refl

-- ---- an integer: whether it is a varint64 that must fit 32 signed bits, whether it is a varint32

unfoldable fit_of : Shape → ℕ
fit_of (one int32) = 1
fit_of (one uint32) = 0
fit_of (one uint64) = 0
fit_of (one bool) = 0
fit_of (one sint32) = 0
fit_of (one sint64) = 0
fit_of (one fixed32) = 0
fit_of (one sfixed32) = 0
fit_of (one fixed64) = 0
fit_of (other x) = 0

unfoldable varint32_of : Shape → ℕ
varint32_of (one int32) = 0
varint32_of (one uint32) = 1
varint32_of (one uint64) = 0
varint32_of (one bool) = 0
varint32_of (one sint32) = 1
varint32_of (one sint64) = 0
varint32_of (one fixed32) = 0
varint32_of (one sfixed32) = 0
varint32_of (one fixed64) = 0
varint32_of (other x) = 0

fit_kind : (k : ℕ) → must_fit32 k ≡ eqb (fit_of (shape k)) 1
unfolding shape shapes fit_of
fit_kind k =
    bit_back (must_fit32 k)
    ∙ ap (λ (n : ℕ). eqb n 1) (sym (by_table fit_of (λ n. bit (must_fit32 n)) tt (λ n h. rw (ne_eqb n int32_kind (λ e. omega arith), ne_eqb n enum_kind (λ e. omega arith))) k))

varint32_kind : (k : ℕ) → is_varint32 k ≡ eqb (varint32_of (shape k)) 1
unfolding shape shapes varint32_of
varint32_kind k =
    bit_back (is_varint32 k)
    ∙ ap (λ (n : ℕ). eqb n 1) (sym (by_table varint32_of (λ n. bit (is_varint32 n)) tt (λ n h. rw (ne_eqb n uint32_kind (λ e. omega arith), ne_eqb n sint32_kind (λ e. omega arith))) k))

int_shape : (x : Shape) (s : List ℕ) → is_int x ≡ true → int_by x (eqb (fit_of x) 1) (varint_of (eqb (varint32_of x) 1) s) ≡ scalar_of x s
unfolding fit_of varint32_of scalar_of scalar int_by require meant_by meant_as meaning
int_shape (one int32) s h = signed (varint64 s)
  where
    signed : (r : Read) → int_by (one int32) true r ≡ require out_of_range signed32 r
    signed (Took v n) = refl
    signed (No k) = refl
int_shape (one uint32) s h = same (varint32 s)
  where
    same : (r : Read) → int_by (one uint32) false r ≡ r
    same (Took v n) = refl
    same (No k) = refl
int_shape (one uint64) s h = same (varint64 s)
  where
    same : (r : Read) → int_by (one uint64) false r ≡ r
    same (Took v n) = refl
    same (No k) = refl
int_shape (one bool) s h = means (varint64 s)
  where
    means : (r : Read) → int_by (one bool) false r ≡ meaning (min 1) r
    means (Took v n) = refl
    means (No k) = refl
int_shape (one sint32) s h = means (varint32 s)
  where
    means : (r : Read) → int_by (one sint32) false r ≡ meaning unzigzag r
    means (Took v n) = refl
    means (No k) = refl
int_shape (one sint64) s h = means (varint64 s)
  where
    means : (r : Read) → int_by (one sint64) false r ≡ meaning unzigzag r
    means (Took v n) = refl
    means (No k) = refl
int_shape (one fixed32) s h = absurd (false≢true h)
int_shape (one sfixed32) s h = absurd (false≢true h)
int_shape (one fixed64) s h = absurd (false≢true h)
int_shape (other x) s h = absurd (false≢true h)

-- a varint read as a value of its kind is the definition's
pub int_kind : (k : ℕ) (s : List ℕ) → is_int (shape k) ≡ true → int_by (shape k) (must_fit32 k) (varint_of (is_varint32 k) s) ≡ scalar_of (shape k) s
int_kind k s h = rw (fit_kind k, varint32_kind k) (int_shape (shape k) s h)
