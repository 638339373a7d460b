-- Laws of reading: a field takes at least one byte and lies in the bytes, and a message is its first field's records, followed by the rest's.
-- Assumes nothing.
use Prim.Native.Nat.{ℕ, zero, suc, ◌+◌, ◌-◌, ◌/◌, ◌≤◌, ◌<◌}
use native.Mathlib.Omega.{arith}
use mathlib.Core.Path.{◌≡◌, refl, sym, ap, ap₂, ◌∙◌, subst}
use mathlib.Core.List.{List, [], ◌∷◌}
use lib.ListN.{length, drop, length-drop, length-take}
use Rattle.spec.specs.Names.{ends_early, message_kind, most_levels}
use Rattle.spec.specs.Base.{part, Read, No}
use Rattle.spec.specs.Utf8.{utf8}
use Rattle.spec.specs.Kind.{Scalar, Shape, one, other, string, bytes, message, packed, start_group, end_group, nothing, shape, scalar}
use Rattle.spec.specs.Reading.{Mode, Look, Field, Value, Message, Packed, Dropped, Fault, given, shaped, field, used, Reading, Done, Refused, ◌then◌, ◌followed_by◌, element, elements, span, records, fields, read}
use Rattle.spec.specs.Record.{row}
use Rattle.spec.proofs.Laws.{either_way, Takes, took, none, takes_tag, takes_scalar, takes_varint, Holds, holds, content_holds}
use Rattle.spec.proofs.VarintLaws.{lower_or_not}
use Rattle.spec.proofs.SkipLaws.{takes_skip_group_lem}
use Rattle.spec.proofs.Utf8Laws.{valid_le}
use Rattle.spec.proofs.FieldLaws.{message_head, message_too_deep}

-- from a up to e, after at least one byte, and in the first `most`
abbrev pub In : ℕ → ℕ → ℕ → Type 0
In a e most = (1 ≤ a) × (a ≤ e) × (e ≤ most)

-- A field in the first `most` bytes: its tag takes at least one, and its value or content lies between that and its end. The place of a fault lies in them too.
pub data Sound (most : ℕ) : Field → Type 0 where
  is_value : {m k v a e : ℕ} → In a e most → Sound most (Value m k v a e)
  is_message : {m c a e : ℕ} → In a e most → Sound most (Message m c a e)
  is_packed : {m k a e : ℕ} → In a e most → Sound most (Packed m k a e)
  is_dropped : {m e : ℕ} → In e e most → Sound most (Dropped m e)
  is_fault : {n p : ℕ} → p ≤ most → Sound most (Fault n p)

-- such a field took some of them, or is a fault
pub taken_or_fault : (P : Field → Type 0) {most : ℕ} {x : Field} → Sound most x → (1 ≤ used x → used x ≤ most → P x) → ((k p : ℕ) → P (Fault k p)) → P x
unfolding used
taken_or_fault P (is_value h) f g = f (omega arith) (omega arith)
taken_or_fault P (is_message h) f g = f (omega arith) (omega arith)
taken_or_fault P (is_packed h) f g = f (omega arith) (omega arith)
taken_or_fault P (is_dropped h) f g = f (omega arith) (omega arith)
taken_or_fault P (is_fault {n} {p} h) f g = g n p

-- the same as functions, whose arguments are read off what is to be proved
value_in : {most m k v a e : ℕ} → In a e most → Sound most (Value m k v a e)
value_in h = is_value h

message_in : {most m c a e : ℕ} → In a e most → Sound most (Message m c a e)
message_in h = is_message h

packed_in : {most m k a e : ℕ} → In a e most → Sound most (Packed m k a e)
packed_in h = is_packed h

dropped_in : {most m e : ℕ} → In e e most → Sound most (Dropped m e)
dropped_in h = is_dropped h

fault_in : {most n p : ℕ} → p ≤ most → Sound most (Fault n p)
fault_in h = is_fault h

-- at the tag
fault_first : {most n : ℕ} → Sound most (Fault n 0)
fault_first = is_fault {p = 0} (omega arith)

length_part : (a e : ℕ) (s : List ℕ) → length (part a e s) ≤ e - a
length_part a e s = omega (arith, length-take (e - a) (drop a s))

sound_given : {least most all : ℕ} {r : Read} {f : ℕ → ℕ → Field} → Takes least most r
    → ((v n : ℕ) → least ≤ n → n ≤ most → Sound all (f v n)) → Sound all (given r f)
unfolding given
sound_given (took {v} {n} h j) g = g v n h j
sound_given none g = fault_first

sound_held : {most all : ℕ} {r : Read} {f : ℕ → ℕ → Field} → Holds most r
    → ((a e : ℕ) → 1 ≤ a → a ≤ e → e ≤ most → Sound all (f a e)) → Sound all (given r f)
unfolding given
sound_held (holds {a} {e} h i j) g = g a e h i j
sound_held Holds.none g = fault_first

shaped_sound : (mode : Mode) (x : Shape) (depth inner m k n : ℕ) (s : List ℕ) (most : ℕ) → 1 ≤ n → n + length s ≤ most
    → Sound most (shaped mode x depth inner m k n s)
unfolding shaped
shaped_sound mode (one c) depth inner m k n s most h j = sound_given (takes_scalar c s) λ v i p q. value_in (omega arith)
shaped_sound mode (other string) depth inner m k n s most h j =
    sound_held (content_holds _ s (takes_varint _ _ s)) λ a z p o q.
    either_way (Sound most) (utf8 (part a z s)) (value_in (omega arith)) (fault_in (omega (arith, valid_le (part a z s), length_part a z s)))
shaped_sound mode (other bytes) depth inner m k n s most h j =
    sound_held (content_holds _ s (takes_varint _ _ s)) λ a z p o q. value_in (omega arith)
shaped_sound mode (other message) depth inner m k n s most h j =
    lower_or_not depth most_levels
    (λ c. subst (Sound most) (sym (message_head mode depth inner m k n s c)) (sound_held (content_holds _ s (takes_varint _ _ s)) λ a z p o q. message_in (omega arith)))
    (λ c. subst (Sound most) (sym (message_too_deep mode depth inner m k n s c)) fault_first)
shaped_sound mode (other packed) depth inner m k n s most h j =
    sound_held (content_holds _ s (takes_varint _ _ s)) λ a z p o q. packed_in (omega arith)
shaped_sound mode (other start_group) depth inner m k n s most h j =
    sound_given (takes_skip_group_lem (length s) (No ends_early) none depth s) λ v i p q. dropped_in (omega arith)
shaped_sound mode (other end_group) depth inner m k n s most h j = fault_first
shaped_sound mode (other nothing) depth inner m k n s most h j = fault_first

pub field_sound : (look : Look) (depth type : ℕ) (s : List ℕ) → Sound (length s) (field look depth type s)
unfolding field
field_sound look depth type s =
    sound_given (takes_tag s) λ t n h j.
    let x = look.says type t in
    shaped_sound look.mode (shape x.kind) depth x.inner (t / 8) x.kind n (drop n s) (length s) h (omega (arith, length-drop n s))

-- ---- enough steps are enough

abbrev Inner : Type 0
Inner = ℕ → ℕ → List ℕ → Reading

pub refused_first : (n i : ℕ) (q : Reading) → (Refused n i followed_by q) ≡ Refused n i
unfolding ◌followed_by◌
refused_first n i q = refl

-- the records of a field, and then what follows: what `inner` reads matters only at shorter bytes, and what follows only after the field
pub field_cong : {most : ℕ} (mode : Mode) (p q : Inner) (p' q' : Reading) (depth at : ℕ) (s : List ℕ) (x : Field) → Sound most x
    → ((c a : ℕ) (u : List ℕ) → length u < most → p c a u ≡ q c a u)
    → (1 ≤ used x → used x ≤ most → p' ≡ q')
    → (records mode p depth at s x followed_by p') ≡ (records mode q depth at s x followed_by q')
unfolding records used
field_cong mode p q p' q' depth at s (Value m k v a e) (is_value h) inner rest = ap (λ (r : Reading). (row depth m k v (at + a) (at + e) at then Done) followed_by r) (rest (omega arith) (omega arith))
field_cong mode p q p' q' depth at s (Message m c a e) (is_message h) inner rest =
    ap₂ (λ (i r : Reading). (row depth m message_kind 0 (at + a) (at + e) at then i) followed_by r)
    (inner c (at + a) (part a e s) (omega (arith, length_part a e s))) (rest (omega arith) (omega arith))
field_cong mode p q p' q' depth at s (Packed m k a e) (is_packed h) inner rest =
    ap (λ (r : Reading). records mode p depth at s (Packed m k a e) followed_by r) (rest (omega arith) (omega arith))
field_cong mode p q p' q' depth at s (Dropped m e) (is_dropped h) inner rest = ap (λ (r : Reading). span mode depth m at e followed_by r) (rest (omega arith) (omega arith))
field_cong mode p q p' q' depth at s (Fault n i) (is_fault h) inner rest = refused_first n (at + i) p' ∙ sym (refused_first n (at + i) q')

pub fields_enough : (f g : ℕ) (look : Look) (depth type at : ℕ) (s : List ℕ) → length s ≤ f → length s ≤ g
    → fields f look depth type at s ≡ fields g look depth type at s
unfolding fields
fields_enough zero zero look depth type at s hf hg = refl
fields_enough zero (suc g) look depth type at [] hf hg = refl
fields_enough (suc f) zero look depth type at [] hf hg = refl
fields_enough zero (suc g) look depth type at (b ∷ s) hf hg = absurd (omega arith)
fields_enough (suc f) zero look depth type at (b ∷ s) hf hg = absurd (omega arith)
fields_enough (suc f) (suc g) look depth type at [] hf hg = refl
fields_enough (suc f) (suc g) look depth type at (b ∷ s) hf hg =
    let x = field look depth type (b ∷ s) in
    field_cong look.mode (λ c a u. fields f look (depth + 1) c a u) (λ c a u. fields g look (depth + 1) c a u) _ _ depth at (b ∷ s) x (field_sound look depth type (b ∷ s))
    (λ c a u h. fields_enough f g look (depth + 1) c a u (omega arith) (omega arith))
    (λ h j. fields_enough f g look depth type (at + used x) (drop (used x) (b ∷ s)) (omega (arith, length-drop (used x) (b ∷ s))) (omega (arith, length-drop (used x) (b ∷ s))))

-- ---- the equations of `read`: nothing reads as nothing, and else the first field's records are followed by the rest's

pub read_nil : (look : Look) (depth type at : ℕ) → read look depth type at [] ≡ Done
unfolding read fields
read_nil look depth type at = refl

pub read_cons : (look : Look) (depth type at b : ℕ) (s : List ℕ)
    → read look depth type at (b ∷ s)
    ≡ (records look.mode (λ c a u. read look (depth + 1) c a u) depth at (b ∷ s) (field look depth type (b ∷ s))
    followed_by read look depth type (at + used (field look depth type (b ∷ s))) (drop (used (field look depth type (b ∷ s))) (b ∷ s)))
unfolding read fields
read_cons look depth type at b s =
    let x = field look depth type (b ∷ s) in
    field_cong look.mode (λ c a u. fields (length s) look (depth + 1) c a u) (λ c a u. fields (length u) look (depth + 1) c a u) _ _ depth at (b ∷ s) x (field_sound look depth type (b ∷ s))
    (λ c a u h. fields_enough (length s) (length u) look (depth + 1) c a u (omega arith) (omega arith))
    (λ h j. fields_enough (length s) (length (drop (used x) (b ∷ s))) look depth type (at + used x) (drop (used x) (b ∷ s)) (omega (arith, length-drop (used x) (b ∷ s))) (omega arith))

-- ---- the same for the values of a packed field

element_cong : (t : ℕ) {least most : ℕ} {r : Read} {f g : ℕ → ℕ → Reading} → Takes least most r
    → ((v n : ℕ) → least ≤ n → n ≤ most → f v n ≡ g v n) → element r t f ≡ element r t g
unfolding element
element_cong t (took {v} {n} h j) e = e v n h j
element_cong t none e = refl

module _ (c : Scalar) (d m kind t : ℕ) where
  pub elements_enough : (f g at : ℕ) (s : List ℕ) → length s ≤ f → length s ≤ g → elements f c d m kind t at s ≡ elements g c d m kind t at s
  unfolding elements
  elements_enough zero zero at s hf hg = refl
  elements_enough zero (suc g) at [] hf hg = refl
  elements_enough (suc f) zero at [] hf hg = refl
  elements_enough zero (suc g) at (b ∷ s) hf hg = absurd (omega arith)
  elements_enough (suc f) zero at (b ∷ s) hf hg = absurd (omega arith)
  elements_enough (suc f) (suc g) at [] hf hg = refl
  elements_enough (suc f) (suc g) at (b ∷ s) hf hg =
      element_cong t (takes_scalar c (b ∷ s)) λ v n h j.
      ap (◌then◌ (row d m kind v at (at + n) t))
      (elements_enough f g (at + n) (drop n (b ∷ s)) (omega (arith, length-drop n (b ∷ s))) (omega (arith, length-drop n (b ∷ s))))

  pub elements_cons : (at b : ℕ) (s : List ℕ) → elements (length (b ∷ s)) c d m kind t at (b ∷ s)
      ≡ element (scalar c (b ∷ s)) t (λ v n. row d m kind v at (at + n) t then elements (length (drop n (b ∷ s))) c d m kind t (at + n) (drop n (b ∷ s)))
  unfolding elements
  elements_cons at b s =
      element_cong t (takes_scalar c (b ∷ s)) λ v n h j.
      ap (◌then◌ (row d m kind v at (at + n) t))
      (elements_enough (length s) (length (drop n (b ∷ s))) (at + n) (drop n (b ∷ s)) (omega (arith, length-drop n (b ∷ s))) (omega arith))
