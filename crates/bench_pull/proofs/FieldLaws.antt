-- The iterations and the ends of the loops over the elements of a packed field and over the fields of a message; and what a step adds.
-- Assumes nothing.
use Prim.Native.Nat.{ℕ, zero, suc, ◌+◌, ◌-◌, ◌^◌, ◌≤◌, ◌<◌}
use native.Mathlib.Omega.{arith}
use mathlib.Core.Bool.{true, false}
use mathlib.Core.Path.{◌≡◌, refl, sym, ap, ◌∙◌}
use mathlib.Core.List.{List}
use lib.Bits.{bit_xor}
use lib.ListN.{length, drop}
use borrow.Author.Tests.{le-leb, lt-leb, ne_eqb}
use Rattle.spec.specs.Names.{most_levels, too_deep}
use Rattle.spec.specs.Base.{part, Read, Took, No}
use Rattle.spec.specs.Varint.{varint32}
use Rattle.spec.specs.Kind.{int32, uint32, sint32, fixed32, bool}
use Rattle.spec.specs.Pull as spec
use Rattle.spec.specs.Pull.{Ask, raw_tag, value, bytes, string, skip, moved, numbered, step_at, enter_at}
use Rattle.spec.proofs.VarintLaws.{lower_or_not}
use Rattle.spec.proofs.PullLaws.{enter_too_deep, raw_tag_lem, fewest, fewest_raw, goes_forward, takes_fewest, content_in, enter_content_in}
use Rattle.wire.specs.declared.found.Found.{Found}
use Rattle.wire.proofs.FoundLaws.{varint_placed}
use Rattle.pull.specs.Told.{as_moved, said_told}
use Rattle.pull.specs.declared.step.Moved.{Moved}
use Rattle.std.specs.Prelude.{Option, Some, None, Result, Ok, Err}
use Rattle.wire.specs.Answers.{value_at}
use Rattle.pull.specs.declared.step.Refused.{Refused}
use Rattle.pull.specs.declared.step.Said.{Said}
use Rattle.pull.specs.declared.step.Said.TheVariants as said
use Rattle.bench_pull.specs.declared.message.Part.{Part}
use Rattle.bench_pull.specs.Fields.{Sum, before, found_at, root_int32, root_string, root_message, root_float, root_bool, inner_uint32, inner_bytes, root_ask, inner_ask, amount, amount_of, Ordered, number_on, content_on, found_on, sum_on, elements, Way, field, turns, inner_way, inner, root_content}

-- ---- what a step says

-- it is no number, or no content
abbrev pub NoNumber : Result Said Refused → Type 0
NoNumber x = (v : ℕ) → x ≡ Ok (said.Number v) → ⊥

abbrev pub NoContent : Result Said Refused → Type 0
NoContent x = (a z : ℕ) → x ≡ Ok (said.Content a z) → ⊥

-- it was refused, or said something else
pub refused_no_number : {x : Result Said Refused} {r : Refused} → x ≡ Err r → NoNumber x
refused_no_number e v q = let z : ◌≡◌ {A = ℕ} 0 1 = cc in absurd (omega arith)

pub said_no_number : {x : Result Said Refused} {y : Said} → x ≡ Ok y → ((v : ℕ) → y ≡ said.Number v → ⊥) → NoNumber x
said_no_number e h v q = h v (cc)

pub refused_no_content : {x : Result Said Refused} {r : Refused} → x ≡ Err r → NoContent x
refused_no_content e a z q = let y : ◌≡◌ {A = ℕ} 0 1 = cc in absurd (omega arith)

pub said_no_content : {x : Result Said Refused} {y : Said} → x ≡ Ok y → ((a z : ℕ) → y ≡ said.Content a z → ⊥) → NoContent x
said_no_content e h a z q = h a z (cc)

no_number : (x : Result Said Refused) → NoNumber x → (acc : ℕ) (f : ℕ → Sum) → number_on acc (said_told x) f ≡ before acc
unfolding number_on
no_number (Ok (said.Number v)) h acc f = absurd (h v refl)
no_number (Ok (said.Content a z)) h acc f = refl
no_number (Ok said.End) h acc f = refl
no_number (Err r) h acc f = refl

no_content : (x : Result Said Refused) → NoContent x → (acc : ℕ) (f : ℕ → ℕ → Sum) → content_on acc (said_told x) f ≡ before acc
unfolding content_on
no_content (Ok (said.Number v)) h acc f = refl
no_content (Ok (said.Content a z)) h acc f = absurd (h a z refl)
no_content (Ok said.End) h acc f = refl
no_content (Err r) h acc f = refl

module _ (s : List ℕ) (at level : ℕ) (ask : Ask) (m : Moved) (e : as_moved m ≡ step_at s at level ask) where
  says : {x : Result Said Refused} → m.said ≡ x → (step_at s at level ask).said ≡ said_told x
  says q = ap (λ (n : spec.Moved). n.said) (sym e) ∙ ap said_told q

  pub ordered : Ordered m
  ordered a z q = (content_in s at level ask a z (says q)).1

  -- where it leaves the position: in the bytes, and further by what it takes at least
  forward : at ≤ length s → (at ≤ m.at) × (m.at ≤ length s)
  forward h =
      let there : m.at ≡ (step_at s at level ask).at = ap (λ (n : spec.Moved). n.at) e in
      omega (arith, goes_forward s at level ask h)

  further : {v : ℕ} → m.said ≡ Ok (said.Number v) → at + fewest s at ask ≤ m.at
  further q =
      let there : m.at ≡ (step_at s at level ask).at = ap (λ (n : spec.Moved). n.at) e in
      let here = says q in
      let c = takes_fewest s at level ask (λ k p r. let z : ◌≡◌ {A = ℕ} 0 1 = cc in absurd (omega arith)) in
      omega (arith, c)

-- ---- what is asked after a tag

module _ (s : List ℕ) (at : ℕ) {tag : ℕ} where
  pub root_int32_lem : tag ≡ root_int32 → step_at s at 0 (value int32) ≡ step_at s at 0 (root_ask tag)
  unfolding root_ask
  root_int32_lem e = rw e refl

  pub root_string_lem : tag ≡ root_string → step_at s at 0 string ≡ step_at s at 0 (root_ask tag)
  unfolding root_ask
  root_string_lem e = rw e refl

  pub root_float_lem : tag ≡ root_float → step_at s at 0 (value fixed32) ≡ step_at s at 0 (root_ask tag)
  unfolding root_ask
  root_float_lem e = rw e refl

  pub root_bool_lem : tag ≡ root_bool → step_at s at 0 (value bool) ≡ step_at s at 0 (root_ask tag)
  unfolding root_ask
  root_bool_lem e = rw e refl

  pub root_other : (tag ≡ root_int32 → ⊥) → (tag ≡ root_string → ⊥) → (tag ≡ root_float → ⊥) → (tag ≡ root_bool → ⊥) → step_at s at 0 (skip tag) ≡ step_at s at 0 (root_ask tag)
  unfolding root_ask
  root_other a b c d = rw (ne_eqb tag root_int32 a, ne_eqb tag root_string b, ne_eqb tag root_float c, ne_eqb tag root_bool d) refl

  -- only a skip looks at the level
  module _ (level : ℕ) where
    pub inner_uint32_lem : tag ≡ inner_uint32 → step_at s at 0 (value uint32) ≡ step_at s at level (inner_ask tag)
    unfolding inner_ask step_at
    inner_uint32_lem e = rw e refl

    pub inner_bytes_lem : tag ≡ inner_bytes → step_at s at 0 bytes ≡ step_at s at level (inner_ask tag)
    unfolding inner_ask step_at
    inner_bytes_lem e = rw e refl

    pub inner_other : (tag ≡ inner_uint32 → ⊥) → (tag ≡ inner_bytes → ⊥) → step_at s at level (skip tag) ≡ step_at s at level (inner_ask tag)
    unfolding inner_ask
    inner_other a b = rw (ne_eqb tag inner_uint32 a, ne_eqb tag inner_bytes b) refl

-- ---- the elements of a packed field

-- The whole answer is what the elements from here add to `acc`. `left` counts the iterations that may follow.
pub record Rest (s : List ℕ) (from at acc : ℕ) : Type 0 where
  pub left : ℕ
  pub few : length s ≤ at + left
  pub inside : at ≤ length s
  pub same : elements (length s) from 0 s ≡ elements left acc at s

pub rest_start : (s : List ℕ) (from : ℕ) → Rest s from 0 from
rest_start s from = record { left = length s; few = omega arith; inside = omega arith; same = refl }

elements_end : (k acc at : ℕ) (s : List ℕ) → length s ≤ at → elements k acc at s ≡ Ok acc
unfolding elements
elements_end zero acc at s h = refl
elements_end (suc k) acc at s h = rw (le-leb (length s) at h) refl

pub rest_end : {s : List ℕ} {from at acc : ℕ} → Rest s from at acc → length s ≤ at → Ok acc ≡ elements (length s) from 0 s
rest_end {s} {at = at} {acc} x h = sym (x.same ∙ elements_end x.left acc at s h)

module _ {s : List ℕ} {from at acc : ℕ} (m : Moved) (x : Rest s from at acc) (l : at < length s) (e : as_moved m ≡ step_at s at 0 (value sint32)) where
  turned : (k : ℕ) → elements (suc k) acc at s ≡ number_on acc (said_told m.said) (λ v. elements k (bit_xor acc v) m.at s)
  unfolding elements
  turned k = rw (lt-leb (length s) at l, ← e) refl

  pub rest_refused : NoNumber m.said → before acc ≡ elements (length s) from 0 s
  rest_refused h = sym (x.same ∙ go x.left x.few)
    where
      go : (k : ℕ) → length s ≤ at + k → elements k acc at s ≡ before acc
      go zero f = absurd (omega arith)
      go (suc k) f = turned k ∙ no_number m.said h acc _

  pub rest_placed : {v : ℕ} → m.said ≡ Ok (said.Number v) → (at < m.at) × (m.at ≤ length s)
  unfolding fewest
  rest_placed q = omega (arith, forward s at 0 (value sint32) m e x.inside, further s at 0 (value sint32) m e q)

  pub rest_turn : {v : ℕ} → m.said ≡ Ok (said.Number v) → Rest s from m.at (bit_xor acc v)
  unfolding number_on
  rest_turn {v} q = go x.left x.few x.same
    where
      p : (at < m.at) × (m.at ≤ length s)
      p = rest_placed q

      go : (k : ℕ) → length s ≤ at + k → elements (length s) from 0 s ≡ elements k acc at s → Rest s from m.at (bit_xor acc v)
      go zero h r = absurd (omega arith)
      go (suc k) h r = record { left = k; few = omega (arith, p); inside = p.1; same = r ∙ turned k ∙ rw q refl }

-- ---- the fields of a message

-- Likewise, for a message that is read in a way w and whose answer is `whole`.
pub record Here (w : Way) (whole : Sum) (s : List ℕ) (at acc : ℕ) : Type 0 where
  pub left : ℕ
  pub few : length s ≤ at + left
  pub inside : at ≤ length s
  pub same : whole ≡ turns w left acc at s

pub here_start : (w : Way) (whole : Sum) (s : List ℕ) (from : ℕ) → whole ≡ turns w (length s) from 0 s → Here w whole s 0 from
here_start w whole s from e = record { left = length s; few = omega arith; inside = omega arith; same = e }

turns_end : (w : Way) (k acc at : ℕ) (s : List ℕ) → length s ≤ at → turns w k acc at s ≡ Ok acc
unfolding turns
turns_end w zero acc at s h = refl
turns_end w (suc k) acc at s h = rw (le-leb (length s) at h) refl

pub here_end : {w : Way} {whole : Sum} {s : List ℕ} {at acc : ℕ} → Here w whole s at acc → length s ≤ at → Ok acc ≡ whole
here_end {w} {s = s} {at} {acc} x h = sym (x.same ∙ turns_end w x.left acc at s h)

-- a tag is a varint32
tag_below : (s : List ℕ) (at g : ℕ) → (step_at s at 0 raw_tag).said ≡ spec.Number g → at < length s → g < 2 ^ 32
unfolding moved
tag_below s at g e l = go (varint32 (drop at s)) refl (ap (λ (m : spec.Moved). m.said) (sym (raw_tag_lem s at 0 l)) ∙ e)
  where
    go : (r : Read) → r ≡ varint32 (drop at s) → (numbered at r).said ≡ spec.Number g → g < 2 ^ 32
    go (Took v n) q p =
        let z : v ≡ g = cc in
        let k = varint_placed 4 15 s at {f = value_at v (at + n)} (ap (Took v) (omega arith) ∙ q) refl in
        omega (arith, k.small)
    go (No k) q p = let z : ◌≡◌ {A = ℕ} 0 1 = cc in absurd (omega arith)

-- what a value that was found adds, and the position after it
next_of : Option Found → ℕ
next_of (Some f) = f.next
next_of None = 0

amount_at : (x : spec.Said) (n : ℕ) {v next : ℕ} → found_at v next ≡ amount x n → next ≡ n
unfolding amount next_of
amount_at (spec.Number v) n e = ap next_of e
amount_at (spec.Content a z) n e = ap next_of e
amount_at spec.End n e = let z : ◌≡◌ {A = ℕ} 0 1 = cc in absurd (omega arith)
amount_at (spec.Refused k p) n e = let z : ◌≡◌ {A = ℕ} 0 1 = cc in absurd (omega arith)

-- an iteration: the tag at a position in the bytes
module _ {w : Way} {whole : Sum} {s : List ℕ} {at acc : ℕ} (t : Moved) (x : Here w whole s at acc) (l : at < length s) (e : as_moved t ≡ step_at s at 0 raw_tag) where
  record Turn : Type 0 where
    left : ℕ
    few : length s ≤ at + suc left
    same : whole ≡ number_on acc (said_told t.said) (λ tag. field w acc t.at tag s (λ y to. turns w left y to s))

  turn : Turn
  unfolding turns
  turn = go x.left x.few x.same
    where
      go : (k : ℕ) → length s ≤ at + k → whole ≡ turns w k acc at s → Turn
      go zero f q = absurd (omega arith)
      go (suc k) f q = record { left = k; few = f; same = q ∙ rw (lt-leb (length s) at l, ← e) refl }

  pub tag_refused : NoNumber t.said → before acc ≡ whole
  tag_refused h = sym (turn.same ∙ no_number t.said h acc _)

  module _ {g : ℕ} (n : t.said ≡ Ok (said.Number g)) where
    tagged : whole ≡ field w acc t.at g s (λ y to. turns w turn.left y to s)
    unfolding number_on
    tagged = turn.same ∙ ap (λ (y : Result Said Refused). number_on acc (said_told y) (λ tag. field w acc t.at tag s (λ y to. turns w turn.left y to s))) n

    behind : (at < t.at) × (t.at ≤ length s)
    behind = omega (arith, forward s at 0 raw_tag t e x.inside, further s at 0 raw_tag t e n, fewest_raw s at l)

    pub tag_small : g < 2 ^ 32
    tag_small = tag_below s at g (says s at 0 raw_tag t e n) l

    -- it goes on from a position after the tag
    onward : (to y : ℕ) → t.at ≤ to → to ≤ length s → whole ≡ turns w turn.left y to s → Here w whole s to y
    onward to y h i q = record { left = turn.left; few = omega (arith, turn.few, behind); inside = i; same = q }

    -- a content
    module _ (m : Moved) (f : as_moved m ≡ enter_at s t.at w.level) (h : w.holds g ≡ true) where
      entered : whole ≡ content_on acc (said_told m.said) (λ a z. sum_on (w.content g (bit_xor acc (z - a)) (part a z s)) (λ y. turns w turn.left y m.at s))
      unfolding field
      entered = tagged ∙ rw (h, ← f) refl

      pub enter_refused : NoContent m.said → before acc ≡ whole
      enter_refused r = sym (entered ∙ no_content m.said r acc _)

      module _ {a z : ℕ} (q : m.said ≡ Ok (said.Content a z)) where
        pub content_placed : (a ≤ z) × (z ≤ length s) × (at < m.at) × (m.at ≤ length s) × (t.at ≤ m.at)
        content_placed =
            let there : m.at ≡ (enter_at s t.at w.level).at = ap (λ (n : spec.Moved). n.at) f in
            let c = enter_content_in s t.at w.level a z (ap (λ (n : spec.Moved). n.said) (sym f) ∙ ap said_told q) in
            omega (arith, c, behind)

        module _ (c : Sum) (r : c ≡ w.content g (bit_xor acc (z - a)) (part a z s)) where
          summed : whole ≡ sum_on c (λ y. turns w turn.left y m.at s)
          unfolding content_on
          summed = entered ∙ rw (q, r) refl

          pub content_refused : {y : Part} → c ≡ Err y → c ≡ whole
          unfolding sum_on
          content_refused i = i ∙ sym (summed ∙ rw i refl)

          pub content_turn : {y : ℕ} → c ≡ Ok y → Here w whole s m.at y
          unfolding sum_on
          content_turn {y} i = let p = content_placed in onward m.at y p.4 p.3 (summed ∙ rw i refl)

    -- a value
    module _ (v : Option Found) (f : v ≡ amount_of (step_at s t.at w.level (w.ask g))) (h : w.holds g ≡ false) where
      added : whole ≡ found_on acc v (λ y to. turns w turn.left (bit_xor acc y) to s)
      unfolding field
      added = tagged ∙ rw (h, f) refl

      pub value_refused : v ≡ None → before acc ≡ whole
      unfolding found_on
      value_refused i = sym (added ∙ rw i refl)

      module _ {y to : ℕ} (i : v ≡ found_at y to) where
        pub value_placed : (at < to) × (to ≤ length s) × (t.at ≤ to)
        value_placed =
            let b = behind in
            let there = amount_at (step_at s t.at w.level (w.ask g)).said (step_at s t.at w.level (w.ask g)).at (sym i ∙ f) in
            omega (arith, there, b, goes_forward s t.at w.level (w.ask g) b.1)

        pub value_turn : Here w whole s to (bit_xor acc y)
        unfolding found_on
        value_turn = let p = value_placed in onward to (bit_xor acc y) p.2 p.1 (added ∙ rw i refl)

-- ---- levels

-- a content is entered only below the last level
pub entered_below : (s : List ℕ) (at level : ℕ) (m : Moved) → as_moved m ≡ enter_at s at level → {a z : ℕ} → m.said ≡ Ok (said.Content a z) → level < most_levels
entered_below s at level m e {a} {z} q =
    lower_or_not level most_levels (λ h. h)
    (λ h. let x : spec.Refused too_deep at ≡ spec.Content a z = ap (λ (n : spec.Moved). n.said) (sym (enter_too_deep s at level h) ∙ sym e) ∙ ap said_told q in
    let y : ◌≡◌ {A = ℕ} 0 1 = cc in absurd (omega arith))

pub inner_turns : (level from : ℕ) (s : List ℕ) → level ≤ most_levels → inner (most_levels + 1 - level) from s ≡ turns (inner_way level (inner (most_levels - level))) (length s) from 0 s
unfolding inner
inner_turns level from s h =
    let one : most_levels + 1 - level ≡ suc (most_levels - level) = omega arith in
    let back : most_levels - (most_levels - level) ≡ level = omega arith in
    ap (λ (n : ℕ). inner n from s) one ∙ ap (λ (l : ℕ). turns (inner_way l (inner (most_levels - level))) (length s) from 0 s) back

pub inner_deeper : (level acc : ℕ) (c : List ℕ) {x : Sum} → x ≡ inner (most_levels + 1 - (level + 1)) acc c → x ≡ inner (most_levels - level) acc c
inner_deeper level acc c e = e ∙ ap (λ (n : ℕ). inner n acc c) {x = most_levels + 1 - (level + 1)} {y = most_levels - level} (omega arith)

-- ---- the contents of the root

module _ {tag : ℕ} (acc : ℕ) (c : List ℕ) where
  pub root_message_lem : tag ≡ root_message → inner most_levels acc c ≡ root_content tag acc c
  unfolding root_content
  root_message_lem e = rw e refl

  pub root_packed_lem : (tag ≡ root_message → ⊥) → elements (length c) acc 0 c ≡ root_content tag acc c
  unfolding root_content
  root_packed_lem h = rw (ne_eqb tag root_message h) refl
