-- What a field reads as, one law for each rule of docs/DEFINITIONS.md: by its tag, by the entry of its number, and where there is none that fits.
-- Assumes nothing.
use Prim.Native.Nat.{ℕ, ◌+◌, ◌/◌, ◌%◌, ◌≤◌, ◌<◌}
use native.Mathlib.Omega.{arith}
use mathlib.Core.Path.{◌≡◌, refl, sym, ap, ◌∙◌}
use mathlib.Core.Bool.{Bool, true, false, ◌&&◌, false≢true}
use mathlib.Core.List.{List, ◌∷◌}
use lib.ListN.{length, drop}
use lib.Dec.{leb, eqb}
use borrow.Author.Tests.{leb-true, leb-false, le-leb, eq-eqb, ne_eqb}
use Rattle.spec.specs.Names.{dropped_span, bad_varint, delimited_wire, end_group_wire, ends_early, fixed32_wire, fixed64_wire, message_kind, most_levels, no_group_open, not_utf8, packed_head, start_group_wire, too_deep, varint_wire, group_end, group_start, unknown_bytes, unknown_fixed32, unknown_fixed64, unknown_varint}
use Rattle.std.specs.Prelude.{if◌then◌else◌}
use Rattle.spec.specs.Base.{part, Read, Took, No, longer, ◌>>=◌, digit}
use Rattle.spec.specs.Varint.{varint, varint32, varint64, fixed, tag}
use Rattle.spec.specs.Utf8.{utf8, valid_end}
use Rattle.spec.specs.Kind.{int32, uint32, uint64, bool, sint32, sint64, fixed32, sfixed32, fixed64, Shape, one, other, string, bytes, message, packed, wires, wire, shapes, shape, is_scalar, scalar}
use Rattle.spec.specs.Schema.{Schema, lookup, unknown_kind, kind_of, inside_of, says_of, says}
use Rattle.spec.specs.Skip.{content, skip_field, inner_group, outer_group}
use Rattle.spec.specs.Record.{row}
use Rattle.spec.specs.Reading.{Mode, Look, looking, Field, Value, Message, Packed, Dropped, Fault, given, shaped, field, Reading, Done, ◌then◌, contents, span, records}
use Rattle.spec.proofs.Laws.{if_so, if_not}
use Rattle.spec.proofs.KindLaws.{wire_one, wire_of, wire_shape}
use Rattle.spec.proofs.SkipLaws.{group_too_deep, group_closes, group_field_refused, tag_read}
use Rattle.spec.specs.declared.Entry.{Entry}

-- ---- the kind that a field of an entry and a wire type is read as

-- with the entry's own wire type it is typed
pub kind_typed : (e : Entry) (w : ℕ) → w ≡ wire e.kind → kind_of e w ≡ e.kind
unfolding kind_of
kind_typed e w h = simp (eq-eqb w (wire e.kind) h)

scalar_wire : (x : Shape) → is_scalar x ≡ true → 2 ≡ wire_of x → ⊥
unfolding is_scalar wire_of wire_one
scalar_wire (other x) h e = absurd (false≢true h)
scalar_wire (one int32) h e = omega arith
scalar_wire (one uint32) h e = omega arith
scalar_wire (one uint64) h e = omega arith
scalar_wire (one bool) h e = omega arith
scalar_wire (one sint32) h e = omega arith
scalar_wire (one sint64) h e = omega arith
scalar_wire (one fixed32) h e = omega arith
scalar_wire (one sfixed32) h e = omega arith
scalar_wire (one fixed64) h e = omega arith

-- a repeated entry of a kind that is one number takes wire type 2 as packed too
pub kind_packed : (e : Entry) → e.repeated ≡ true → is_scalar (shape e.kind) ≡ true → kind_of e delimited_wire ≡ packed_head
unfolding kind_of
kind_packed e r c = simp (ne_eqb 2 (wire e.kind) (λ w. scalar_wire (shape e.kind) c (w ∙ wire_shape e.kind)), r, c)

-- all else is unknown
pub kind_unknown : (e : Entry) (w : ℕ) → (w ≡ wire e.kind → ⊥) → (e.repeated && is_scalar (shape e.kind) && eqb w delimited_wire) ≡ false → kind_of e w ≡ unknown_kind w
unfolding kind_of
kind_unknown e w h p = simp (ne_eqb w (wire e.kind) h, p)

pub kind_lacking : (e : Entry) (w : ℕ) → e.kind ≡ 0 → w ≤ fixed32_wire → kind_of e w ≡ unknown_kind w
unfolding wire wires shape shapes is_scalar
kind_lacking e w k h = kind_unknown e w (λ p. omega (arith, p ∙ ap wire k)) (go e.repeated _ (ap (λ (x : ℕ). is_scalar (shape x)) k))
  where
    go : (a b : Bool) → b ≡ false → (a && b && eqb w delimited_wire) ≡ false
    go a true p = absurd (false≢true (sym p))
    go true false p = refl
    go false false p = refl

-- ---- what comes after the tag, by its shape

-- with what was read
pub given_took : {r : Read} {v n : ℕ} (f : ℕ → ℕ → Field) → r ≡ Took v n → given r f ≡ f v n
unfolding given
given_took f e = ap (λ (r : Read). given r f) e

pub given_no : {r : Read} {k : ℕ} (f : ℕ → ℕ → Field) → r ≡ No k → given r f ≡ Fault k 0
unfolding given
given_no f e = ap (λ (r : Read). given r f) e

module _ (mode : Mode) (depth inner m kind n : ℕ) (s : List ℕ) where
  -- a message head stands below depth 100, whatever comes after its tag
  pub message_too_deep : most_levels ≤ depth → shaped mode (other message) depth inner m kind n s ≡ Fault too_deep 0
  unfolding shaped
  message_too_deep h = if_so (leb _ depth) _ (λ e. omega (arith, leb-false _ depth e))

  -- the length of a message and of a packed field is a varint64; a packed field's head may stand at every depth
  pub message_head : depth < most_levels → shaped mode (other message) depth inner m kind n s ≡ given (content varint64 s) λ a z. Message m inner (n + a) (n + z)
  unfolding shaped
  message_head h = if_not (leb _ depth) _ (λ e. omega (arith, leb-true _ depth e))

  pub packed_head_lem : shaped mode (other packed) depth inner m kind n s ≡ given (content varint64 s) λ a z. Packed m inner (n + a) (n + z)
  unfolding shaped
  packed_head_lem = refl

  -- that of a string and of bytes, which an unknown content is too, is a varint32; only a string is checked, and refused where a character is broken
  pub string_value : shaped mode (other string) depth inner m kind n s
      ≡ given (content varint32 s) λ a z. if utf8 (part a z s) then Value m kind 0 (n + a) (n + z) else Fault not_utf8 (n + valid_end a z s)
  unfolding shaped
  string_value = refl

  pub bytes_value : shaped mode (other bytes) depth inner m kind n s ≡ given (content varint32 s) λ a z. Value m kind 0 (n + a) (n + z)
  unfolding shaped
  bytes_value = refl

-- the two widths differ: a length of 0 in six bytes is a message's, and no string's
abbrev pub zero_in_six : List ℕ → List ℕ
zero_in_six s = 0x80 ∷ 0x80 ∷ 0x80 ∷ 0x80 ∷ 0x80 ∷ 0x00 ∷ s

module _ (s : List ℕ) where
  six_64 : content varint64 (zero_in_six s) ≡ Took 6 6
  unfolding content varint digit longer ◌>>=◌
  six_64 = simp (le-leb 6 (length (zero_in_six s)) (omega arith))

  six_32 : content varint32 (zero_in_six s) ≡ No bad_varint
  unfolding content varint digit longer ◌>>=◌
  six_32 = refl

  module _ (mode : Mode) (depth inner m kind n : ℕ) where
    pub message_six : depth < most_levels → shaped mode (other message) depth inner m kind n (zero_in_six s) ≡ Message m inner (n + 6) (n + 6)
    message_six h = message_head mode depth inner m kind n (zero_in_six s) h ∙ given_took _ six_64

    pub packed_six : shaped mode (other packed) depth inner m kind n (zero_in_six s) ≡ Packed m inner (n + 6) (n + 6)
    packed_six = packed_head_lem mode depth inner m kind n (zero_in_six s) ∙ given_took _ six_64

    pub string_six : shaped mode (other string) depth inner m kind n (zero_in_six s) ≡ Fault bad_varint 0
    string_six = string_value mode depth inner m kind n (zero_in_six s) ∙ given_no _ six_32

    pub bytes_six : shaped mode (other bytes) depth inner m kind n (zero_in_six s) ≡ Fault bad_varint 0
    bytes_six = bytes_value mode depth inner m kind n (zero_in_six s) ∙ given_no _ six_32

-- ---- the field at the front of some bytes, by its tag

pub bad_tag_fault : (look : Look) (depth type : ℕ) (s : List ℕ) (k : ℕ) → tag s ≡ No k → field look depth type s ≡ Fault k 0
unfolding field
bad_tag_fault look depth type s k e = given_no _ e

-- the field of the tag t, whose number has the entry e
module _ (mode : Mode) (sch : Schema) (depth type : ℕ) (s : List ℕ) (t n : ℕ) (reads : tag s ≡ Took t n) (e : Entry) (is : lookup sch.entries type (t / 8) ≡ e) where
  field_kind : (k : ℕ) → kind_of e (t % 8) ≡ k → field (looking mode sch) depth type s ≡ shaped mode (shape k) depth (inside_of k e) (t / 8) k n (drop n s)
  unfolding field says says_of
  field_kind k h =
      given_took _ reads ∙ ap (λ (x : Entry). shaped mode (shape (kind_of x (t % 8))) depth (inside_of (kind_of x (t % 8)) x) (t / 8) (kind_of x (t % 8)) n (drop n s)) is
      ∙ ap (λ (k : ℕ). shaped mode (shape k) depth (inside_of k e) (t / 8) k n (drop n s)) h

  -- with the entry's wire type it is of the entry's kind
  pub typed_field : t % 8 ≡ wire e.kind → field (looking mode sch) depth type s ≡ shaped mode (shape e.kind) depth (inside_of e.kind e) (t / 8) e.kind n (drop n s)
  typed_field w = field_kind e.kind (kind_typed e (t % 8) w)

  -- a message head at depth 100 is refused 7, whatever follows its tag
  message_kind_lem : e.kind ≡ message_kind → t % 8 ≡ delimited_wire → kind_of e (t % 8) ≡ message_kind
  unfolding wire wires
  message_kind_lem k w = kind_typed e (t % 8) (w ∙ ap wire (sym k)) ∙ k

  pub message_refused : e.kind ≡ message_kind → t % 8 ≡ delimited_wire → most_levels ≤ depth → field (looking mode sch) depth type s ≡ Fault too_deep 0
  unfolding shape shapes
  message_refused k w h = field_kind message_kind (message_kind_lem k w) ∙ message_too_deep mode depth e.child (t / 8) message_kind n (drop n s) h

  pub message_field : e.kind ≡ message_kind → t % 8 ≡ delimited_wire → depth < most_levels
      → field (looking mode sch) depth type s ≡ given (content varint64 (drop n s)) λ a z. Message (t / 8) e.child (n + a) (n + z)
  unfolding shape shapes
  message_field k w h = field_kind message_kind (message_kind_lem k w) ∙ message_head mode depth e.child (t / 8) message_kind n (drop n s) h

  -- a packed head may stand at every depth
  pub packed_field_lem : e.repeated ≡ true → is_scalar (shape e.kind) ≡ true → t % 8 ≡ delimited_wire
      → field (looking mode sch) depth type s ≡ given (content varint64 (drop n s)) λ a z. Packed (t / 8) e.kind (n + a) (n + z)
  unfolding shape shapes
  packed_field_lem r c w = field_kind packed_head (ap (kind_of e) w ∙ kind_packed e r c) ∙ packed_head_lem mode depth e.kind (t / 8) packed_head n (drop n s)

  -- ---- an unknown field, by its wire type: it has no entry, or one that `kind_unknown` says

  pub lacking_unknown : e.kind ≡ 0 → kind_of e (t % 8) ≡ unknown_kind (t % 8)
  lacking_unknown k = kind_lacking e (t % 8) k (tag_read s t n reads).1

  module _ (unknown : kind_of e (t % 8) ≡ unknown_kind (t % 8)) where
    unknown_is : (w : ℕ) → t % 8 ≡ w → kind_of e (t % 8) ≡ unknown_kind w
    unknown_is w h = unknown ∙ ap unknown_kind h

    -- a varint as it stands: zigzag is not undone
    pub unknown_varint_lem : t % 8 ≡ varint_wire → field (looking mode sch) depth type s ≡ given (varint64 (drop n s)) λ v l. Value (t / 8) unknown_varint v n (n + l)
    unfolding unknown_kind shape shapes shaped scalar
    unknown_varint_lem w = field_kind unknown_varint (unknown_is varint_wire w)

    pub unknown_fixed64_lem : t % 8 ≡ fixed64_wire → field (looking mode sch) depth type s ≡ given (fixed 8 (drop n s)) λ v l. Value (t / 8) unknown_fixed64 v n (n + l)
    unfolding unknown_kind shape shapes shaped scalar
    unknown_fixed64_lem w = field_kind unknown_fixed64 (unknown_is fixed64_wire w)

    -- a content as it stands: it is not checked for UTF-8
    pub unknown_bytes_lem : t % 8 ≡ delimited_wire → field (looking mode sch) depth type s ≡ given (content varint32 (drop n s)) λ a z. Value (t / 8) unknown_bytes 0 (n + a) (n + z)
    unfolding unknown_kind shape shapes shaped
    unknown_bytes_lem w = field_kind unknown_bytes (unknown_is delimited_wire w)

    pub unknown_fixed32_lem : t % 8 ≡ fixed32_wire → field (looking mode sch) depth type s ≡ given (fixed 4 (drop n s)) λ v l. Value (t / 8) unknown_fixed32 v n (n + l)
    unfolding unknown_kind shape shapes shaped scalar
    unknown_fixed32_lem w = field_kind unknown_fixed32 (unknown_is fixed32_wire w)

    pub unknown_end : t % 8 ≡ end_group_wire → field (looking mode sch) depth type s ≡ Fault no_group_open 0
    unfolding unknown_kind shape shapes shaped
    unknown_end w = field_kind group_end (unknown_is end_group_wire w)

    pub unknown_group : t % 8 ≡ start_group_wire → field (looking mode sch) depth type s ≡ given (outer_group depth (drop n s)) λ v l. Dropped (t / 8) (n + l)
    unfolding unknown_kind shape shapes shaped
    unknown_group w = field_kind group_start (unknown_is start_group_wire w)

    -- The outermost group is not counted: an empty one is taken at every depth, and so at 100, where one more in it is refused 7.
    pub group_dropped : (u m : ℕ) → t % 8 ≡ start_group_wire → tag (drop n s) ≡ Took u m → u % 8 ≡ end_group_wire → field (looking mode sch) depth type s ≡ Dropped (t / 8) (n + m)
    group_dropped u m w r c = unknown_group w ∙ given_took _ (group_closes (No ends_early) depth (drop n s) u m r c)

    pub group_in_group : (u m : ℕ) → t % 8 ≡ start_group_wire → tag (drop n s) ≡ Took u m → u % 8 ≡ start_group_wire → most_levels ≤ depth → field (looking mode sch) depth type s ≡ Fault too_deep 0
    group_in_group u m w r c h =
        unknown_group w
        ∙ given_no _ (group_field_refused (No ends_early) depth (drop n s) u m too_deep r (λ x. omega arith)
        (ap (λ (x : ℕ). skip_field inner_group depth x (drop m (drop n s))) c ∙ group_too_deep inner_group depth (drop m (drop n s)) h))

-- ---- the records of a packed field: its elements stand one deeper than the head, and with none it is dropped

module _ (mode : Mode) (inner : ℕ → ℕ → List ℕ → Reading) (depth at : ℕ) (s : List ℕ) (m kind a z : ℕ) where
  pub packed_records : a < z → records mode inner depth at s (Packed m kind a z)
      ≡ row depth m packed_head 0 (at + a) (at + z) at then contents (shape kind) (depth + 1) m kind at (at + a) (part a z s)
  unfolding records
  packed_records h = simp (ne_eqb a z (λ e. omega arith))

  pub packed_empty : a ≡ z → records mode inner depth at s (Packed m kind a z) ≡ span mode depth m at z
  unfolding records
  packed_empty h = simp (eq-eqb a z h)

-- ---- what is dropped

module _ (mode : Mode) (depth m at e : ℕ) where
  pub span_none : mode.dropped ≡ false → span mode depth m at e ≡ Done
  unfolding span
  span_none h = ap (λ (b : Bool). if b then row depth m dropped_span 0 at (at + e) at then Done else Done) h

  pub span_asked : mode.dropped ≡ true → span mode depth m at e ≡ row depth m dropped_span 0 at (at + e) at then Done
  unfolding span
  span_asked h = ap (λ (b : Bool). if b then row depth m dropped_span 0 at (at + e) at then Done else Done) h
