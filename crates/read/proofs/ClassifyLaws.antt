-- Laws of the steps of a field: its tag, its length, what comes after them. Each says an answer of the code in the definitions' terms.
-- Assumes nothing.
use Prim.Native.Nat.{ℕ, suc, ◌+◌, ◌-◌, ◌*◌, ◌/◌, ◌%◌, ◌^◌, ◌≤◌, ◌<◌}
use native.Mathlib.Omega.{arith}
use mathlib.Core.Path.{◌≡◌, refl, sym, ap, ap₂, ◌∙◌}
use mathlib.Core.Bool.{Bool, true, false, not, false≢true}
use mathlib.Core.List.{List}
use lib.ListN.{length, drop, take, get_or, length-drop}
use lib.Dec.{eqb}
use borrow.Author.Tests.{le-leb, lt-leb, eqb-true, eqb-false}
use Rattle.spec.specs.Names.{bytes_kind, message_kind, most_levels, packed_head, string_kind, unknown_bytes, bad_tag, fixed32_wire, not_utf8, too_deep}
use Rattle.std.specs.Prelude.{if◌then◌else◌, Result, Ok, Err}
use Rattle.spec.specs.Base.{Read, Took, No}
use Rattle.spec.specs.Told.{number_of}
use Rattle.spec.specs.declared.refusals.Refusal.{Refusal}
use Rattle.spec.specs.Varint.{varint32, tag, good_tag}
use Rattle.spec.specs.Utf8.{utf8}
use Rattle.spec.specs.Kind.{head_kind, Shape, one, other, string, bytes, message, packed, start_group, end_group, nothing, shape, shapes}
use Rattle.spec.specs.Schema.{Says}
use Rattle.spec.specs.Skip.{content}
use Rattle.spec.proofs.Laws.{by_test, Takes, took, none, takes_tag}
use Rattle.spec.proofs.SkipLaws.{good_tag_lem}
use Rattle.schema.specs.Layout.{key_count}
use Rattle.schema.specs.Tables.{table_says}
use Rattle.schema.proofs.AskingLaws.{Right, guessed, says_guessed}
use Rattle.skip.proofs.PastLaws.{one_byte, tag_refused, tag_good, tag_bad, later_byte}
use Rattle.wire.specs.Answers.{as_read, value_at}
use Rattle.wire.specs.Reached.{varint_of}
use Rattle.wire.proofs.FoundLaws.{Placed, varint_placed}
use Rattle.read.specs.Answers.{short, Shortly, is_short, scalar_of, has_length, length_of, value_in, valued, ranged, texted, bodied, tag_said, tag_at, quick_tag}
use Rattle.read.specs.declared.classify.TagSaid.{TagSaid}
use Rattle.skip.specs.Spans.{content_at, span_at}
use Rattle.skip.proofs.KnownLaws.{Known, known_content}
use Rattle.skip.proofs.SpanLaws.{same_bounds, span_in, span_no, span_part}
use Rattle.read.proofs.Turn.{takes_of}
use Rattle.read.proofs.KindTests.{head_of, head_test, head_kind_lem, head_one, sort_of}

-- ---- varints of few bytes

module _ (at : ℕ) (s : List ℕ) (inside : at < length s) where
  pub one_short : get_or s at 0 < 128 → Shortly (drop at s) (short (get_or s at 0) 1)
  one_short h = is_short (λ k last. one_byte (suc (suc k)) last at s inside h) (omega arith)

  pub two_short : 128 ≤ get_or s at 0 → at + 1 < length s → get_or s (at + 1) 0 < 128 → {v : ℕ} → v ≡ get_or s at 0 % 128 + get_or s (at + 1) 0 * 128
      → Shortly (drop at s) (short v 2)
  two_short b i h {v} e =
      is_short {v = v} {n = 2} (λ k last. later_byte (suc (suc k)) last at s inside b (one_byte (suc k) last (at + 1) s i h) ∙ ap (λ (x : ℕ). Took x 2) (omega arith)) (omega arith)

  pub three_short : 128 ≤ get_or s at 0 → at + 1 < length s → 128 ≤ get_or s (at + 1) 0 → at + 2 < length s → get_or s (at + 2) 0 < 128
      → {v : ℕ} → v ≡ get_or s at 0 % 128 + get_or s (at + 1) 0 % 128 * 128 + get_or s (at + 2) 0 * 128 ^ 2 → Shortly (drop at s) (short v 3)
  three_short b i c j h {v} e =
      let q : at + 2 ≡ at + 1 + 1 = omega arith in
      let z : get_or s at 0 % 128 + 128 * (get_or s (at + 1) 0 % 128 + 128 * get_or s (at + 1 + 1) 0) ≡ v = rw (← q) (omega arith) in
      is_short {v = v} {n = 3}
      (λ k last.
      later_byte (suc (suc k)) last at s inside b (later_byte (suc k) last (at + 1) s i c (one_byte k last (at + 1 + 1) s (omega arith) (rw q at h)))
      ∙ ap (λ (x : ℕ). Took x 3) z)
      (omega arith)

-- ---- tags

module _ (say : ℕ → Says) (at : ℕ) (s : List ℕ) where
  tag_no : {k : ℕ} → tag (drop at s) ≡ No k → Err k ≡ tag_at say at (tag (drop at s))
  unfolding tag_at
  tag_no e = rw e

  tag_took : {t n : ℕ} → tag (drop at s) ≡ Took t n → Ok (tag_said (t / 8) (say t).kind (say t).inner (at + n)) ≡ tag_at say at (tag (drop at s))
  unfolding tag_at
  tag_took e = rw e

  pub refused_tag : {k : ℕ} → No k ≡ varint32 (drop at s) → Err k ≡ tag_at say at (tag (drop at s))
  refused_tag e = tag_no (tag_refused (drop at s) (sym e))

  module _ {v : ℕ} (next : ℕ) (e : as_read at (value_at v next) ≡ varint32 (drop at s)) where
    pub bad_tag_lem : good_tag v ≡ false → Err bad_tag ≡ tag_at say at (tag (drop at s))
    bad_tag_lem g = tag_no (tag_bad (drop at s) (sym e) g)

    pub told_tag : good_tag v ≡ true → Ok (tag_said (v / 8) (say v).kind (say v).inner next) ≡ tag_at say at (tag (drop at s))
    told_tag g =
        let p : Placed _ s at v next = varint_placed 4 15 s at e refl in
        let q : next ≡ at + (next - at) = omega (arith, p.past) in
        ap (λ (n : ℕ). Ok (tag_said (v / 8) (say v).kind (say v).inner n)) q ∙ tag_took (tag_good (drop at s) (sym e) g)

-- where a tag ends
abbrev after_tag : Result TagSaid ℕ → ℕ
after_tag (Ok t) = t.next
after_tag (Err k) = 0

pub tag_inside : (say : ℕ → Says) (at : ℕ) (s : List ℕ) {t : TagSaid} → Ok t ≡ tag_at say at (tag (drop at s)) → t.next ≤ length s
unfolding tag_at
tag_inside say at s {t} e = go (tag (drop at s)) (takes_tag (drop at s)) e
  where
    go : (r : Read) → Takes 1 (length (drop at s)) r → Ok t ≡ tag_at say at r → t.next ≤ length s
    go (Took v n) (took h j) q = let z : t.next ≡ at + n = ap after_tag q in omega (arith, length-drop at s)
    go (No k) none q = let z : ◌≡◌ {A = ℕ} 0 1 = cc in absurd (omega arith)

-- a tag of one byte whose entry is the guess
abbrev pub byte : ℕ → List ℕ → ℕ
byte at s = get_or s at 0

module _ (keys info : List ℕ) (ty at : ℕ) (s : List ℕ) (inside : at < length s) where
  pub guessed_tag : Right keys info ty (byte at s) → guessed info ty (byte at s) < key_count → 8 ≤ byte at s → byte at s % 8 < fixed32_wire + 1
      → Ok (quick_tag info (guessed info ty (byte at s)) (byte at s) at) ≡ tag_at (table_says keys info ty) at (tag (drop at s))
  guessed_tag r l a b =
      let c : ℕ = byte at s in
      let whole : tag (drop at s) ≡ Took c 1 = tag_good (drop at s) (one_byte 3 15 at s inside r.0) (good_tag_lem c (omega arith) (omega arith)) in
      ap (λ (x : Says). Ok (tag_said (c / 8) x.kind x.inner (at + 1))) (sym (says_guessed keys info ty c r l))
      ∙ tag_took (table_says keys info ty) at s whole

-- ---- lengths and contents

-- a length of one byte, at both widths
pub short_length : (narrow : Bool) (at : ℕ) (s : List ℕ) → at < length s → get_or s at 0 < 128 → varint_of narrow (drop at s) ≡ Took (get_or s at 0) 1
short_length true at s h l = one_byte 3 15 at s h l
short_length false at s h l = one_byte 8 1 at s h l

-- a content is refused by one of the refusals, at both widths
pub known_span : (narrow : Bool) (s : List ℕ) → Known (content (varint_of narrow) s)
known_span true s = known_content 4 15 s
known_span false s = known_content 9 1 s

-- ---- what comes after a tag

-- the kinds of a field with a length
by_length {ℓ} : (P : ℕ → Type ℓ) → P string_kind → P message_kind → P bytes_kind → P packed_head → P unknown_bytes → (k : ℕ) → has_length k ≡ true → P k
by_length P p₀ p₁ p₂ p₃ p₄ k h = by (eqb k string_kind) (eqb k message_kind) (eqb k bytes_kind) (eqb k packed_head) (eqb k unknown_bytes) refl refl refl refl refl
  where
    by : (b₀ b₁ b₂ b₃ b₄ : Bool) → eqb k string_kind ≡ b₀ → eqb k message_kind ≡ b₁ → eqb k bytes_kind ≡ b₂ → eqb k packed_head ≡ b₃ → eqb k unknown_bytes ≡ b₄ → P k
    by true b₁ b₂ b₃ b₄ e f g i j = rw (eqb-true k string_kind e) p₀
    by false true b₂ b₃ b₄ e f g i j = rw (eqb-true k message_kind f) p₁
    by false false true b₃ b₄ e f g i j = rw (eqb-true k bytes_kind g) p₂
    by false false false true b₄ e f g i j = rw (eqb-true k packed_head i) p₃
    by false false false false true e f g i j = rw (eqb-true k unknown_bytes j) p₄
    by false false false false false e f g i j = absurd (false≢true (sym (rw (e, f, g, i, j) refl) ∙ h))

pub text_body : (at : ℕ) (s : List ℕ) → bodied (shape string_kind) 0 at s ≡ texted at s (content (length_of string_kind) s)
unfolding bodied shape shapes
text_body at s = refl

pub content_body : (at : ℕ) (s : List ℕ) (kind : ℕ) → has_length kind ≡ true → (kind ≡ string_kind → ⊥) → bodied (shape kind) 0 at s ≡ ranged at (content (length_of kind) s)
unfolding bodied shape shapes
content_body at s =
    by_length (λ k. (k ≡ string_kind → ⊥) → bodied (shape k) 0 at s ≡ ranged at (content (length_of k) s)) (λ n. absurd (n refl)) (λ n. refl) (λ n. refl) (λ n. refl) (λ n. refl)

module _ (at : ℕ) (r : Read) where
  ranged_of : {a e : ℕ} → content_at a e ≡ span_at at r → value_in 0 a e ≡ ranged at r
  unfolding span_at ranged
  ranged_of {a} {e} h = go r h
    where
      go : (r : Read) → content_at a e ≡ span_at at r → value_in 0 a e ≡ ranged at r
      go (Took m n) q = let same = same_bounds q in ap₂ (value_in 0) same.0 same.1
      go (No k) q = let z : ◌≡◌ {A = ℕ} 0 1 = cc in absurd (omega arith)

  ranged_bad : {k : ℕ} → r ≡ No k → Err k ≡ ranged at r
  unfolding ranged
  ranged_bad h = sym (ap (ranged at) h)

  texted_bad : (s : List ℕ) {k : ℕ} → r ≡ No k → Err k ≡ texted at s r
  unfolding texted
  texted_bad s h = sym (ap (texted at s) h)

  texted_of : (s : List ℕ) {a e : ℕ} → content_at a e ≡ span_at at r → at ≤ a → {b : Bool} → b ≡ utf8 (take (e - a) (drop a s)) → (if b then value_in 0 a e else Err not_utf8) ≡ texted at (drop at s) r
  unfolding span_at texted
  texted_of s {a} {e} h l {b} u = go r h
    where
      go : (r : Read) → content_at a e ≡ span_at at r → (if b then value_in 0 a e else Err not_utf8) ≡ texted at (drop at s) r
      go (Took m n) q = let found = span_part at s m n q in rw (u, found.2, found.0, found.1) refl
      go (No k) q = let z : ◌≡◌ {A = ℕ} 0 1 = cc in absurd (omega arith)

-- a number, or nothing
unsized : (x : Shape) (at : ℕ) (s : List ℕ) → sort_of x ≡ 0 → bodied x 0 at s ≡ valued at (scalar_of x s)
unfolding bodied valued scalar_of sort_of
unsized (one c) at s h = refl
unsized (other string) at s h = absurd (omega arith)
unsized (other bytes) at s h = absurd (omega arith)
unsized (other message) at s h = absurd (omega arith)
unsized (other packed) at s h = absurd (omega arith)
unsized (other start_group) at s h = absurd (omega arith)
unsized (other end_group) at s h = absurd (omega arith)
unsized (other nothing) at s h = refl

module _ (x : Shape) (at : ℕ) (s : List ℕ) (h : sort_of x ≡ 0) where
  pub value_body : {v next : ℕ} → as_read at (value_at v next) ≡ scalar_of x s → value_in v at next ≡ bodied x 0 at s
  unfolding valued
  value_body {v} {next} e = go (scalar_of x s) (takes_of x s) e ∙ sym (unsized x at s h)
    where
      go : (r : Read) → Takes 1 (length s) r → Took v (next - at) ≡ r → value_in v at next ≡ valued at r
      go (Took w n) (took i j) q =
          let y : next - at ≡ n = cc in
          let z : v ≡ w = cc in
          ap₂ (λ (a e : ℕ). value_in a at e) z (omega arith)
      go (No k) none q = let z : ◌≡◌ {A = ℕ} 0 1 = cc in absurd (omega arith)

  pub refused_body : {k : ℕ} → No k ≡ scalar_of x s → Err k ≡ bodied x 0 at s
  unfolding valued
  refused_body e = rw (unsized x at s h, ← e) refl

-- only a message's head asks for the depth
pub shallow_body : (depth at : ℕ) (s : List ℕ) (kind : ℕ) → (kind ≡ message_kind → depth < most_levels) → bodied (shape kind) 0 at s ≡ bodied (shape kind) depth at s
unfolding bodied head_of
shallow_body depth at s kind d = go (shape kind) (head_kind_lem kind)
  where
    go : (x : Shape) → head_of x ≡ head_test kind → bodied x 0 at s ≡ bodied x depth at s
    go (one c) h = refl
    go (other string) h = refl
    go (other bytes) h = refl
    go (other message) h = rw (lt-leb most_levels depth (d (head_one kind message_kind (omega arith) h))) refl
    go (other packed) h = refl
    go (other start_group) h = refl
    go (other end_group) h = refl
    go (other nothing) h = refl

pub deep_body : (depth at : ℕ) (s : List ℕ) → most_levels ≤ depth → Err too_deep ≡ bodied (shape message_kind) depth at s
unfolding bodied shape shapes
deep_body depth at s h = rw (le-leb most_levels depth h) refl

-- ---- the answers for a field with a length

module _ (kind at : ℕ) (s : List ℕ) (long : has_length kind ≡ true) where
  pub content_answer : {a e : ℕ} → (kind ≡ string_kind → ⊥) → content_at a e ≡ span_at at (content (length_of kind) (drop at s)) → value_in 0 a e ≡ bodied (shape kind) 0 at (drop at s)
  content_answer n h = ranged_of at (content (length_of kind) (drop at s)) h ∙ sym (content_body at (drop at s) kind long n)

  pub bad_answer : {k : Refusal} → Err k ≡ span_at at (content (length_of kind) (drop at s)) → Err (number_of k) ≡ bodied (shape kind) 0 at (drop at s)
  bad_answer {k} h =
      by_test (eqb kind string_kind)
      (λ e. bad_text (eqb-true kind string_kind e) no)
      (λ e. ranged_bad at (content (length_of kind) (drop at s)) no ∙ sym (content_body at (drop at s) kind long (eqb-false kind string_kind e)))
    where
      no : content (length_of kind) (drop at s) ≡ No (number_of k)
      no = span_no at (known_span (not (head_kind kind)) (drop at s)) h

      bad_text : kind ≡ string_kind → content (length_of kind) (drop at s) ≡ No (number_of k) → Err (number_of k) ≡ bodied (shape kind) 0 at (drop at s)
      bad_text e q = rw (e, text_body) (texted_bad at (content (length_of string_kind) (drop at s)) (drop at s) (rw e at q))

pub text_answer : (at : ℕ) (s : List ℕ) {a e : ℕ} (kind : ℕ) → kind ≡ string_kind → content_at a e ≡ span_at at (content (length_of kind) (drop at s)) → (b : Bool)
    → b ≡ utf8 (take (e - a) (drop a s)) → (if b then value_in 0 a e else Err not_utf8) ≡ bodied (shape kind) 0 at (drop at s)
text_answer at s kind k h b u =
    let bounds = span_in (not (head_kind kind)) at s h in
    rw (k, text_body) (texted_of at (content (length_of string_kind) (drop at s)) s (rw k at h) bounds.0 u)
