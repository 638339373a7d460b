-- Laws of what a field asks: that it is the definition's field, and what a reader may rely on. Assumes nothing.
use Prim.Native.Nat.{ℕ, ◌+◌, ◌-◌, ◌/◌, ◌≤◌, ◌<◌}
use native.Mathlib.Omega.{arith}
use mathlib.Core.Path.{◌≡◌, refl, sym, ap, ap₂, ◌∙◌}
use mathlib.Core.Bool.{Bool, true, false}
use mathlib.Core.List.{List}
use lib.ListN.{length, drop, length-drop}
use lib.Seq.{drop-drop}
use lib.Dec.{leb, eqb}
use borrow.Author.Tests.{ne_eqb, leb-false}
use Rattle.spec.specs.Names.{bad_tag, message_kind, most_levels, no_group_open, not_utf8, packed_head, too_deep}
use Rattle.std.specs.Prelude.{if◌then◌else◌, Result, Ok, Err}
use Rattle.spec.specs.Base.{part, Read, Took, No}
use Rattle.spec.specs.Varint.{varint32, varint64, tag}
use Rattle.spec.specs.Utf8.{utf8, valid_end}
use Rattle.spec.specs.Kind.{Shape, one, other, string, bytes, message, packed, start_group, end_group, nothing, shape, scalar}
use Rattle.spec.specs.Skip.{content, outer_group}
use Rattle.spec.specs.declared.Mode.{Mode}
use Rattle.spec.specs.Reading as spec
use Rattle.spec.proofs.Laws.{chosen, either_way, Takes, took, none, takes_tag}
use Rattle.spec.proofs.ReadingLaws.{In, Sound, is_value, is_message, is_packed, field_sound}
use Rattle.spec.proofs.RefusalLaws.{is_ordinary, Ordinary, was_read, refused_by, not_ordinary, ordinary_tag, ordinary_scalar, ordinary_content}
use Rattle.skip.proofs.PastLaws.{tag_varint}
use Rattle.read.specs.Answers.{value_in, valued, ranged, texted, bodied, tag_said, tag_at, with_body, from_body, from_tag, asked, letter_after, letter_in, refused_in, as_field, row_field, resolved, Held}
use Rattle.read.specs.declared.classify.Row.{Row}
use Rattle.read.specs.declared.classify.Field.{Field}
use Rattle.read.specs.declared.classify.Field.TheVariants as field
use Rattle.read.specs.declared.classify.TagSaid.{TagSaid}
use Rattle.read.specs.declared.classify.Body.{Body}
use Rattle.read.specs.declared.classify.Body.TheVariants as body
use Rattle.read.proofs.KindTests.{head_of, head_test, head_kind_lem, head_one}

-- ---- where it is refused

pub at_tag : (k : ℕ) (u : List ℕ) → (k ≡ not_utf8 → ⊥) → refused_in k u ≡ 0
at_tag k u h = rw (ne_eqb k not_utf8 h)

pub without_tag : (u : List ℕ) {k : ℕ} → varint32 u ≡ No k → refused_in not_utf8 u ≡ 0
unfolding letter_in
without_tag u e = ap (letter_in u) e

-- after its tag, which ends at `next`
module _ (at next : ℕ) (s : List ℕ) (h : at ≤ next) {t : ℕ} (e : varint32 (drop at s) ≡ Took t (next - at)) where
  after_tag : refused_in not_utf8 (drop at s) ≡ letter_after (next - at) (drop next s) (content varint32 (drop next s))
  unfolding letter_in
  after_tag =
      let n : at + (next - at) ≡ next = omega arith in
      ap (letter_in (drop at s)) e ∙ ap (λ (u : List ℕ). letter_after (next - at) u (content varint32 u)) (drop-drop (next - at) at s ∙ ap (λ (i : ℕ). drop i s) n)

  pub without_content : {k : ℕ} → content varint32 (drop next s) ≡ No k → refused_in not_utf8 (drop at s) ≡ 0
  unfolding letter_after
  without_content c = after_tag ∙ ap (letter_after (next - at) (drop next s)) c

  pub at_letter : {a z : ℕ} → content varint32 (drop next s) ≡ Took a z → refused_in not_utf8 (drop at s) ≡ next - at + valid_end a z (drop next s)
  unfolding letter_after
  at_letter c = after_tag ∙ ap (letter_after (next - at) (drop next s)) c

-- ---- it is the definition's field

-- which it is, by the one number of its kind
module _ (m kind inner v a e : ℕ) where
  as_value : 0 ≡ head_test kind → as_field m kind inner v a e ≡ spec.Value m kind v a e
  as_value h =
      rw (
        ne_eqb kind message_kind (λ q. let z : 0 ≡ message_kind = h ∙ ap head_test q in omega arith),
        ne_eqb kind packed_head (λ q. let z : 0 ≡ packed_head = h ∙ ap head_test q in omega arith),
      )

  as_message : kind ≡ message_kind → as_field m kind inner v a e ≡ spec.Message m inner a e
  as_message h = rw h

  as_packed : kind ≡ packed_head → as_field m kind inner v a e ≡ spec.Packed m inner a e
  as_packed h = rw h

module _ (depth at n m kind inner : ℕ) (s : List ℕ) where
  abbrev there : Result Body ℕ → spec.Field
  there b = resolved depth at s (from_body (tag_said m kind inner (at + n)) b)

  abbrev behind : List ℕ
  behind = drop (at + n) s

  there_is : (v a e : ℕ) → there (value_in v (at + n + a) (at + n + e)) ≡ as_field m kind inner v (n + a) (n + e)
  unfolding resolved from_body with_body
  there_is v a e = ap₂ (as_field m kind inner v) (omega arith) (omega arith)

  there_bad : (k : ℕ) → is_ordinary k ≡ true → there (Err k) ≡ spec.Fault k 0
  unfolding resolved from_body with_body
  there_bad k o = ap (spec.Fault k) (at_tag k (drop at s) (not_ordinary o))

  there_valued : 0 ≡ head_test kind → {r : Read} → Ordinary r → there (valued (at + n) r) ≡ spec.given r (λ v l. spec.Value m kind v n (n + l))
  unfolding resolved from_body with_body valued spec.given
  there_valued h (was_read {v} {n = l}) = ap₂ (as_field m kind inner v) (omega arith) (omega arith) ∙ as_value m kind inner v n (n + l) h
  there_valued h (refused_by {k} o) = there_bad k o

  there_ranged : (f : ℕ → ℕ → spec.Field) → ((a e : ℕ) → as_field m kind inner 0 (n + a) (n + e) ≡ f a e) → {r : Read} → Ordinary r → there (ranged (at + n) r) ≡ spec.given r f
  unfolding resolved from_body with_body ranged spec.given
  there_ranged f h (was_read {v = a} {n = z}) = there_is 0 a z ∙ h a z
  there_ranged f h (refused_by {k} o) = there_bad k o

  there_either : (b : Bool) (x y : Result Body ℕ) {x' y' : spec.Field} → there x ≡ x' → there y ≡ y' → there (if b then x else y) ≡ (if b then x' else y')
  there_either true x y e f = e
  there_either false x y e f = f

  module _ {t : ℕ} (tagged : varint32 (drop at s) ≡ Took t (at + n - at)) where
    there_texted : 0 ≡ head_test kind → (r : Read) → content varint32 behind ≡ r → Ordinary r
        → there (texted (at + n) behind r) ≡ spec.given r (λ a z. if utf8 (part a z behind) then spec.Value m kind 0 (n + a) (n + z) else spec.Fault not_utf8 (n + valid_end a z behind))
    unfolding resolved from_body with_body texted spec.given
    there_texted h (Took a z) c ok =
        there_either (utf8 (part a z behind)) (value_in 0 (at + n + a) (at + n + z)) (Err not_utf8) (there_is 0 a z ∙ as_value m kind inner 0 (n + a) (n + z) h)
        (ap (spec.Fault not_utf8) (omega (arith, at_letter at (at + n) s (omega arith) tagged c)))
    there_texted h (No k) c (refused_by o) = there_bad k o

    there_bodied : (mode : Mode) (x : Shape) → head_of x ≡ head_test kind → there (bodied x depth (at + n) behind) ≡ spec.shaped mode x depth inner m kind n behind
    unfolding resolved from_body with_body bodied spec.shaped head_of
    there_bodied mode (one c) h = there_valued h (ordinary_scalar c behind)
    there_bodied mode (other string) h = there_texted h (content varint32 behind) refl (ordinary_content _ _ behind)
    there_bodied mode (other bytes) h = there_ranged _ (λ a e. as_value m kind inner 0 (n + a) (n + e) h) (ordinary_content _ _ behind)
    there_bodied mode (other message) h =
        there_either (leb most_levels depth) (Err too_deep) (ranged (at + n) (content varint64 behind)) (there_bad too_deep refl)
        (there_ranged _ (λ a e. as_message m kind inner 0 (n + a) (n + e) (head_one kind message_kind (omega arith) h)) (ordinary_content _ _ behind))
    there_bodied mode (other packed) h = there_ranged _ (λ a e. as_packed m kind inner 0 (n + a) (n + e) (head_one kind packed_head (omega arith) h)) (ordinary_content _ _ behind)
    there_bodied mode (other start_group) h = ap (λ (k : ℕ). spec.given (outer_group depth behind) λ v l. spec.Dropped m (k + l)) (omega arith)
    there_bodied mode (other end_group) h = there_bad no_group_open refl
    there_bodied mode (other nothing) h = there_bad bad_tag refl

module _ (look : spec.Look) (depth type at : ℕ) (s : List ℕ) where
  resolved_tag : (r : Read) → tag (drop at s) ≡ r → Ordinary r
      → resolved depth at s (from_tag depth s (tag_at (look.says type) at r))
      ≡ spec.given r (λ t n. spec.shaped look.mode (shape (look.says type t).kind) depth (look.says type t).inner (t / 8) (look.says type t).kind n (drop n (drop at s)))
  unfolding resolved from_tag tag_at spec.given
  resolved_tag (Took t n) e ok =
      rw drop-drop
      (there_bodied depth at n (t / 8) (look.says type t).kind (look.says type t).inner s (sym (tag_varint (drop at s) (sym e)) ∙ ap (Took t) (omega arith)) look.mode (shape (look.says type t).kind) (head_kind_lem (look.says type t).kind))
  resolved_tag (No k) e (refused_by o) = ap (spec.Fault k) (at_tag k (drop at s) (not_ordinary o))

  pub asked_resolved : resolved depth at s (asked look depth type at s) ≡ spec.field look depth type (drop at s)
  unfolding asked spec.field
  asked_resolved = resolved_tag (tag (drop at s)) refl (ordinary_tag (drop at s))

  -- the answer, step by step

  abbrev Answered : Result Field ℕ → Type 0
  Answered r = (resolved depth at s r ≡ spec.field look depth type (drop at s)) × (r ≡ asked look depth type at s)

  answered : (r : Result Field ℕ) → r ≡ asked look depth type at s → Answered r
  answered r e = (rw e asked_resolved, e)

  pub body_answer : {t : TagSaid} {b : Result Body ℕ} → Ok t ≡ tag_at (look.says type) at (tag (drop at s)) → b ≡ bodied (shape t.kind) depth t.next (drop t.next s)
      → Answered (from_body t b)
  unfolding asked from_tag
  body_answer {t} {b} e f = answered (from_body t b) (ap (from_body t) f ∙ ap (from_tag depth s) e)

  pub fault_answer : {k : ℕ} → Err k ≡ tag_at (look.says type) at (tag (drop at s)) → Answered (Err k)
  unfolding asked from_tag
  fault_answer {k} t = answered (Err k) (ap (from_tag depth s) t)

-- ---- what a reader may rely on

-- a head has no value, and a message's stands above the greatest depth
data Kept (depth : ℕ) : Result Field ℕ → Type 0 where
  of_row : {r : Row} → (r.kind ≡ message_kind → depth < most_levels) → (r.kind ≡ message_kind → r.value ≡ 0) → (r.kind ≡ packed_head → r.value ≡ 0) → Kept depth (Ok (field.Of r))
  of_group : {m n : ℕ} → Kept depth (Ok (field.Group m n))
  of_bad : {k : ℕ} → Kept depth (Err k)

not_head : (kind n : ℕ) → n ≡ head_test kind → (k : ℕ) → head_test k ≡ k → (n ≡ k → ⊥) → kind ≡ k → ⊥
not_head kind n h k i d e = d (h ∙ ap head_test e ∙ i)

module _ (depth m kind inner next at : ℕ) where
  abbrev from : Result Body ℕ → Result Field ℕ
  from b = from_body (tag_said m kind inner next) b

  kept_valued : 0 ≡ head_test kind → (r : Read) → Kept depth (from (valued at r))
  unfolding from_body with_body valued
  kept_valued h (Took v n) =
      of_row (λ e. absurd (not_head kind 0 h message_kind refl (λ z. omega arith) e)) (λ e. absurd (not_head kind 0 h message_kind refl (λ z. omega arith) e))
      (λ e. absurd (not_head kind 0 h packed_head refl (λ z. omega arith) e))
  kept_valued h (No k) = of_bad

  kept_ranged : (kind ≡ message_kind → depth < most_levels) → (r : Read) → Kept depth (from (ranged at r))
  unfolding from_body with_body ranged
  kept_ranged d (Took a z) = of_row d (λ e. refl) (λ e. refl)
  kept_ranged d (No k) = of_bad

  kept_texted : (kind ≡ message_kind → depth < most_levels) → (s : List ℕ) (r : Read) → Kept depth (from (texted at s r))
  unfolding from_body with_body texted
  kept_texted d s (Took a z) = either_way (λ b. Kept depth (from b)) (utf8 (part a z s)) (of_row d (λ e. refl) (λ e. refl)) of_bad
  kept_texted d s (No k) = of_bad

  kept_bodied : (s : List ℕ) (x : Shape) → head_of x ≡ head_test kind → Kept depth (from (bodied x depth at s))
  unfolding from_body with_body bodied head_of
  kept_bodied s (one c) h = kept_valued h (scalar c s)
  kept_bodied s (other string) h = kept_texted (λ e. absurd (not_head kind 0 h message_kind refl (λ z. omega arith) e)) s (content varint32 s)
  kept_bodied s (other bytes) h = kept_ranged (λ e. absurd (not_head kind 0 h message_kind refl (λ z. omega arith) e)) (content varint32 s)
  kept_bodied s (other message) h =
      chosen (λ b. Kept depth (from b)) (leb most_levels depth) (λ e. of_bad) (λ e. kept_ranged (λ _. leb-false most_levels depth e) (content varint64 s))
  kept_bodied s (other packed) h = kept_ranged (λ e. absurd (not_head kind packed_head h message_kind refl (λ z. omega arith) e)) (content varint64 s)
  kept_bodied s (other start_group) h = of_group
  kept_bodied s (other end_group) h = of_bad
  kept_bodied s (other nothing) h = of_bad

-- where the definition's field lies, its record's range lies too
row_in : (p q : Bool) {most : ℕ} (m kind inner v a e : ℕ) → Sound most (if p then spec.Message m inner a e else if q then spec.Packed m inner a e else spec.Value m kind v a e) → In a e most
row_in true q m kind inner v a e (is_message h) = h
row_in false true m kind inner v a e (is_packed h) = h
row_in false false m kind inner v a e (is_value h) = h

module _ (look : spec.Look) (depth type at : ℕ) (s : List ℕ) where
  kept_tag : (r : Read) → Kept depth (from_tag depth s (tag_at (look.says type) at r))
  unfolding from_tag tag_at
  kept_tag (Took t n) = kept_bodied depth (t / 8) (look.says type t).kind (look.says type t).inner (at + n) (at + n) (drop (at + n) s) (shape (look.says type t).kind) (head_kind_lem (look.says type t).kind)
  kept_tag (No k) = of_bad

  asked_kept : Kept depth (asked look depth type at s)
  unfolding asked
  asked_kept = kept_tag (tag (drop at s))

  asked_in : (r : Row) → asked look depth type at s ≡ Ok (field.Of r) → In (r.start - at) (r.end - at) (length (drop at s))
  unfolding resolved
  asked_in r e =
      let same : spec.field look depth type (drop at s) ≡ row_field at r = sym (asked_resolved look depth type at s) ∙ ap (resolved depth at s) e in
      row_in (eqb r.kind message_kind) (eqb r.kind packed_head) r.number r.kind r.inner r.value (r.start - at) (r.end - at) (rw same at (field_sound look depth type (drop at s)))

  pub asked_held : (r : Row) → asked look depth type at s ≡ Ok (field.Of r) → Held depth at (length s) r
  asked_held r e = go (rw e at asked_kept)
    where
      go : Kept depth (Ok (field.Of r)) → Held depth at (length s) r
      go (of_row d z y) =
          let i = asked_in r e in
          record {
            behind = omega (arith, i);
            ordered = omega (arith, i);
            inside = omega (arith, i, length-drop at s);
            shallow = d;
            message_zero = z;
            packed_zero = y;
          }

  -- a group's fields stand in the slice
  pub asked_group : {m next : ℕ} → asked look depth type at s ≡ Ok (field.Group m next) → (at < next) × (next ≤ length s)
  unfolding asked from_tag tag_at from_body with_body
  asked_group {m} {next} e = go (tag (drop at s)) (takes_tag (drop at s)) e
    where
      from_body_lem : (t : TagSaid) (b : Result Body ℕ) → from_body t b ≡ Ok (field.Group m next) → t.next ≡ next
      from_body_lem t (Ok (body.Is v a z)) q = let z : ◌≡◌ {A = ℕ} 0 1 = cc in absurd (omega arith)
      from_body_lem t (Ok body.Group) q = cc
      from_body_lem t (Err k) q = let z : ◌≡◌ {A = ℕ} 0 1 = cc in absurd (omega arith)

      go : (r : Read) → Takes 1 (length (drop at s)) r → from_tag depth s (tag_at (look.says type) at r) ≡ Ok (field.Group m next) → (at < next) × (next ≤ length s)
      go (Took t n) (took h j) q =
          let z : at + n ≡ next = from_body_lem (tag_said (t / 8) (look.says type t).kind (look.says type t).inner (at + n)) (bodied (shape (look.says type t).kind) depth (at + n) (drop (at + n) s)) q in
          (omega arith, omega (arith, length-drop at s))
      go (No k) none q = let z : ◌≡◌ {A = ℕ} 0 1 = cc in absurd (omega arith)
