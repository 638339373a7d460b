-- Reading asks what is known of tags only of good ones, and only in messages of known types: two that know the same of those read the same.
-- Assumes nothing.
use Prim.Native.Nat.{ℕ, zero, suc, ◌+◌, ◌/◌, ◌%◌, ◌^◌, ◌≤◌, ◌<◌}
use native.Mathlib.Omega.{arith}
use mathlib.Core.Path.{◌≡◌, refl, ap, ap₂, ◌∙◌}
use mathlib.Core.List.{List, [], ◌∷◌}
use lib.ListN.{length, drop}
use lib.Dec.{leb}
use Rattle.spec.specs.Names.{fixed32_wire, message_kind, most_levels}
use Rattle.spec.specs.Base.{part, Read, Took, No}
use Rattle.spec.specs.Varint.{varint32, varint64, tag}
use Rattle.spec.specs.Utf8.{utf8}
use Rattle.spec.specs.Kind.{Shape, one, other, string, bytes, message, packed, start_group, end_group, nothing, shape, scalar}
use Rattle.spec.specs.Schema.{Says}
use Rattle.spec.specs.Skip.{content, outer_group}
use Rattle.spec.specs.Record.{row}
use Rattle.spec.specs.declared.Mode.{Mode}
use Rattle.spec.specs.Reading.{Look, Field, Value, Message, Packed, Dropped, Fault, given, shaped, field, used, Reading, ◌then◌, ◌followed_by◌, records, fields, read}
use Rattle.spec.proofs.Laws.{either_way}
use Rattle.spec.proofs.SkipLaws.{tag_read}
use Rattle.spec.proofs.VarintLaws.{top, varint_took}
use Rattle.read.proofs.KindTests.{head_of, head_test, head_kind_lem, head_one}

-- the type of a message's fields is one of the first `types`
data Known (types : ℕ) : Field → Type 0 where
  of_value : {m k v a e : ℕ} → Known types (Value m k v a e)
  of_message : {m c a e : ℕ} → c < types → Known types (Message m c a e)
  of_packed : {m k a e : ℕ} → Known types (Packed m k a e)
  of_dropped : {m e : ℕ} → Known types (Dropped m e)
  of_fault : {n p : ℕ} → Known types (Fault n p)

known_given : {types : ℕ} (r : Read) {f : ℕ → ℕ → Field} → ((v n : ℕ) → Known types (f v n)) → Known types (given r f)
unfolding given
known_given (Took v n) h = h v n
known_given (No k) h = of_fault

known_shaped : (mode : Mode) (types : ℕ) (x : Shape) (depth inner m kind n : ℕ) (s : List ℕ) → head_of x ≡ head_test kind → (kind ≡ message_kind → inner < types) → Known types (shaped mode x depth inner m kind n s)
unfolding shaped head_of
known_shaped mode types (one c) depth inner m kind n s h i = known_given (scalar c s) λ v l. of_value
known_shaped mode types (other string) depth inner m kind n s h i = known_given (content varint32 s) λ a z. either_way (Known types) (utf8 (part a z s)) of_value of_fault
known_shaped mode types (other bytes) depth inner m kind n s h i = known_given (content varint32 s) λ a z. of_value
known_shaped mode types (other message) depth inner m kind n s h i =
    either_way (Known types) (leb most_levels depth) of_fault (known_given (content varint64 s) λ a z. of_message (i (head_one kind message_kind (omega arith) h)))
known_shaped mode types (other packed) depth inner m kind n s h i = known_given (content varint64 s) λ a z. of_packed
known_shaped mode types (other start_group) depth inner m kind n s h i = known_given (outer_group depth s) λ v l. of_dropped
known_shaped mode types (other end_group) depth inner m kind n s h i = of_fault
known_shaped mode types (other nothing) depth inner m kind n s h i = of_fault

records_same : (mode : Mode) {types : ℕ} (p q : ℕ → ℕ → List ℕ → Reading) (depth at : ℕ) (s : List ℕ) (x : Field) → Known types x
    → ((c a : ℕ) (u : List ℕ) → c < types → p c a u ≡ q c a u) → records mode p depth at s x ≡ records mode q depth at s x
unfolding records
records_same mode p q depth at s (Value m k v a e) of_value h = refl
records_same mode p q depth at s (Message m c a e) (of_message i) h = ap (◌then◌ (row depth m message_kind 0 (at + a) (at + e) at)) (h c (at + a) (part a e s) i)
records_same mode p q depth at s (Packed m k a e) of_packed h = refl
records_same mode p q depth at s (Dropped m e) of_dropped h = refl
records_same mode p q depth at s (Fault n i) of_fault h = refl

-- a tag that was read has 32 bits
tag_bits : (s : List ℕ) (t n : ℕ) → tag s ≡ Took t n → t < 2 ^ 32
tag_bits s t n e = let b : t < top 4 15 = (varint_took 4 15 t n s (omega arith) (tag_read s t n e).0).2 in omega (arith, b)

-- a field by what is said of its tag
abbrev said : Mode → (depth : ℕ) (s : List ℕ) (t n : ℕ) → Says → Field
said mode depth s t n x = shaped mode (shape x.kind) depth x.inner (t / 8) x.kind n (drop n s)

module _ (mode : Mode) (types : ℕ) (say say' : ℕ → ℕ → Says)
    (same : (type t : ℕ) → type < types → 1 ≤ t / 8 → t < 2 ^ 32 → t % 8 ≤ fixed32_wire → say type t ≡ say' type t)
    (child : (type t : ℕ) → t % 8 ≤ fixed32_wire → (say type t).kind ≡ message_kind → (say type t).inner < types) where
  abbrev with_mode : (ℕ → ℕ → Says) → Look
  with_mode s = record { says = s; mode = mode }

  field_known : (depth type : ℕ) (s : List ℕ) → Known types (field (with_mode say) depth type s)
  unfolding field given
  field_known depth type s = go (tag s) refl
    where
      go : (r : Read) → tag s ≡ r → Known types (given r λ t n. shaped mode (shape (say type t).kind) depth (say type t).inner (t / 8) (say type t).kind n (drop n s))
      go (Took t n) e =
          known_shaped mode types (shape (say type t).kind) depth (say type t).inner (t / 8) (say type t).kind n (drop n s) (head_kind_lem (say type t).kind) (child type t (tag_read s t n e).1)
      go (No k) e = of_fault

  field_same : (depth type : ℕ) (s : List ℕ) → type < types → field (with_mode say) depth type s ≡ field (with_mode say') depth type s
  unfolding field given
  field_same depth type s h = go (tag s) refl
    where
      go : (r : Read) → tag s ≡ r → given r (λ t n. said mode depth s t n (say type t)) ≡ given r (λ t n. said mode depth s t n (say' type t))
      go (Took t n) e = let q = tag_read s t n e in ap (said mode depth s t n) (same type t h q.2 (tag_bits s t n e) q.1)
      go (No k) e = refl

  fields_same : (k depth type at : ℕ) (s : List ℕ) → type < types → fields k (with_mode say) depth type at s ≡ fields k (with_mode say') depth type at s
  unfolding fields
  fields_same zero depth type at s h = refl
  fields_same (suc k) depth type at [] h = refl
  fields_same (suc k) depth type at (b ∷ s) h =
      let x = field (with_mode say) depth type (b ∷ s) in
      ap₂ ◌followed_by◌
      (records_same mode (λ c a u. fields k (with_mode say) (depth + 1) c a u) (λ c a u. fields k (with_mode say') (depth + 1) c a u) depth at (b ∷ s) x (field_known depth type (b ∷ s))
      (λ c a u i. fields_same k (depth + 1) c a u i))
      (fields_same k depth type (at + used x) (drop (used x) (b ∷ s)) h)
      ∙ ap (λ (y : Field). records mode (λ c a u. fields k (with_mode say') (depth + 1) c a u) depth at (b ∷ s) y followed_by fields k (with_mode say') depth type (at + used y) (drop (used y) (b ∷ s)))
      (field_same depth type (b ∷ s) h)

  pub read_cong : (depth type at : ℕ) (s : List ℕ) → type < types → read (with_mode say) depth type at s ≡ read (with_mode say') depth type at s
  unfolding read
  read_cong depth type at s h = fields_same (length s) depth type at s h
