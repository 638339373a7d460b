-- `segment::reading::check_front` meets its contract: its tests are those of the definition. Assumes nothing.
use native.Mathlib.Omega.{arith}
use mathlib.Core.Path.{◌≡◌, sym, ap, ◌∙◌}
use mathlib.Core.Bool.{Bool, true, false, ◌&&◌}
use mathlib.Core.List.{List, [], ◌∷◌}
use Prim.Native.Nat.{ℕ, ◌+◌, ◌*◌, ◌≤◌, ◌<◌}
use lib.ListN.{length, drop, get_or}
use lib.Dec.{eqb}
use borrow.Author.Tests.{le-leb, lt-leb, le-ltb, lt-ltb}
use Rattle.std.specs.List.{starts_with}
use Rattle.std.proofs.lemmas.Bool.Decides.{nat_tests}
use Rattle.spec.specs.Names.{bad_mark, other_version, too_large}
use Rattle.spec.specs.Base.{limit}
use Rattle.segment.specs.Segment.{front_size, letter_w, letter_f, letter_m, front, version, version_of, marked, Refused, split, within, reading}
use Rattle.segment.proofs.reading.check_front.Goals as goal
use Rattle.segment.proofs.reading.check_front.Goals.{then-s-lt-FRONT_SIZE-via-then-s-lt-FRONT_SIZE, then-s-lt-FRONT_SIZE-via-else-s-lt-FRONT_SIZE+then-not-starts_with}

-- the letters, and the version after them
same_letters : (a b c : ℕ) → (eqb a letter_w && eqb b letter_f && eqb c letter_m) ≡ (eqb letter_w a && (eqb letter_f b && (eqb letter_m c && true)))
same_letters a b c = grind (arith, nat_tests)

same_version : (a b c d e : ℕ) → d < 256 → (eqb a letter_w && eqb b letter_f && eqb c letter_m) ≡ true
    → eqb (d + 256 * e) version ≡ (eqb letter_w a && (eqb letter_f b && (eqb letter_m c && (eqb version d && (eqb 0 e && true)))))
same_version a b c d e h m = grind (arith, nat_tests)

marked_tested : (s : List ℕ) → front_size ≤ length s → marked s ≡ starts_with eqb s (letter_w ∷ letter_f ∷ letter_m ∷ [])
marked_tested [] h = absurd (omega arith)
marked_tested (a ∷ []) h = absurd (omega arith)
marked_tested (a ∷ b ∷ []) h = absurd (omega arith)
marked_tested (a ∷ b ∷ c ∷ s) h =
    ap (λ (t : Bool). t && eqb a letter_w && eqb b letter_f && eqb c letter_m) (le-leb front_size (length (a ∷ b ∷ c ∷ s)) h) ∙ same_letters a b c

version_tested : (s : List ℕ) → front_size ≤ length s → get_or s 3 0 < 256 → marked s ≡ true → eqb (version_of s) version ≡ starts_with eqb s front
version_tested [] h l m = absurd (omega arith)
version_tested (a ∷ []) h l m = absurd (omega arith)
version_tested (a ∷ b ∷ []) h l m = absurd (omega arith)
version_tested (a ∷ b ∷ c ∷ []) h l m = absurd (omega arith)
version_tested (a ∷ b ∷ c ∷ d ∷ []) h l m = absurd (omega arith)
version_tested (a ∷ b ∷ c ∷ d ∷ e ∷ s) h l m =
    same_version a b c d e l
    (sym (ap (λ (t : Bool). t && eqb a letter_w && eqb b letter_f && eqb c letter_m) (le-leb front_size (length (a ∷ b ∷ c ∷ d ∷ e ∷ s)) h)) ∙ m)

-- what is read, by the tests
module _ (s : List ℕ) (room : ℕ) where
  short : length s < front_size → reading room s ≡ Refused bad_mark 0
  unfolding reading
  short h = simp (lt-leb front_size (length s) h)

  unmarked : marked s ≡ false → reading room s ≡ Refused bad_mark 0
  unfolding reading
  unmarked m = rw m

  module _ (m : marked s ≡ true) where
    another : eqb (version_of s) version ≡ false → reading room s ≡ Refused other_version 0
    unfolding reading
    another v = rw (m, v)

    module _ (v : eqb (version_of s) version ≡ true) where
      large : limit < length s → reading room s ≡ Refused too_large 0
      unfolding reading
      large h = rw (m, v, lt-ltb limit (length s) h)

      right : length s ≤ limit → reading room s ≡ within room (split front_size (drop front_size s))
      unfolding reading
      right h = rw (m, v, le-ltb limit (length s) h)

pub returns-then-s-lt-FRONT_SIZE-clause-reads : goal.returns-then-s-lt-FRONT_SIZE-clause-reads
returns-then-s-lt-FRONT_SIZE-clause-reads c room =
    elim c.then-s-lt-FRONT_SIZE.branch [
      | then-s-lt-FRONT_SIZE-via-then-s-lt-FRONT_SIZE w ↦ short _ room w.if-s-lt-FRONT_SIZE.true
      | then-s-lt-FRONT_SIZE-via-else-s-lt-FRONT_SIZE+then-not-starts_with w ↦
          unmarked _ room (marked_tested _ w.if-s-lt-FRONT_SIZE.false ∙ sym w.starts_with.ensures.value ∙ w.if-not-starts_with.true)
    ]

pub returns-then-not-starts_with-2-clause-reads : goal.returns-then-not-starts_with-2-clause-reads
returns-then-not-starts_with-2-clause-reads c room =
    let long = c.if-s-lt-FRONT_SIZE.false in
    let m = marked_tested _ long ∙ sym c.starts_with.ensures.value ∙ c.if-not-starts_with.false in
    another _ room m (version_tested _ long (c.type_inv.s 3).fits m ∙ sym c.starts_with-2.ensures.value ∙ c.if-not-starts_with-2.true)

pub returns-then-s-gt-MOST_BYTES-clause-reads : goal.returns-then-s-gt-MOST_BYTES-clause-reads
returns-then-s-gt-MOST_BYTES-clause-reads c room =
    let long = c.if-s-lt-FRONT_SIZE.false in
    let m = marked_tested _ long ∙ sym c.starts_with.ensures.value ∙ c.if-not-starts_with.false in
    large _ room m (version_tested _ long (c.type_inv.s 3).fits m ∙ sym c.starts_with-2.ensures.value ∙ c.if-not-starts_with-2.false)
    c.if-s-gt-MOST_BYTES.true

pub returns-clause-reads : goal.returns-clause-reads
returns-clause-reads c room =
    let long = c.if-s-lt-FRONT_SIZE.false in
    let m = marked_tested _ long ∙ sym c.starts_with.ensures.value ∙ c.if-not-starts_with.false in
    right _ room m (version_tested _ long (c.type_inv.s 3).fits m ∙ sym c.starts_with-2.ensures.value ∙ c.if-not-starts_with-2.false)
    c.if-s-gt-MOST_BYTES.false
