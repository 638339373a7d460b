-- What the steps leave for one another: the bytes at the front of an output, up to a cut; and the part of a slice that a range is of. Assumes nothing.
use Prim.Native.Nat.{ℕ, ◌-◌, ◌≤◌, ◌<◌, min}
use native.Mathlib.Omega.{arith}
use mathlib.Core.Path.{◌≡◌, sym, ap, ◌∙◌}
use mathlib.Core.List.{List, []}
use lib.ListN.{length, take, drop, length-drop, drop_of_length-le}
use lib.Seq.{take-take, take_all, take-nil}
use Rattle.spec.specs.Base.{part}
use Rattle.spec.specs.Writing.{Writing, output, sent}
use Rattle.spec.proofs.SizeLaws.{Leaves}
use Rattle.spec.proofs.VarintLaws.{lower_or_not}

-- ---- an output

-- the first bytes of what was sent, where they are cut at a length
pub sent_cut : (w : Writing) (out : List ℕ) (cut n : ℕ) → Leaves w out → n ≡ min cut (length (sent w)) → take n (output w out) ≡ take cut (sent w)
sent_cut w out cut n l e =
    let x : List ℕ = sent w in
    lower_or_not cut (length x)
    (λ less.
    let is : n ≡ cut = omega arith in
    ap (λ (k : ℕ). take k (output w out)) is ∙ sym (take-take cut (length x) (output w out) (omega arith)) ∙ ap (take cut) l.front)
    (λ more.
    let is : n ≡ length x = omega arith in
    ap (λ (k : ℕ). take k (output w out)) is ∙ l.front ∙ sym (take_all cut x (omega arith)))

-- ---- a range

-- the part of a slice that a range is of, where its end and then its start are reduced to lie in it
pub part_inside : (start stop a e : ℕ) (s : List ℕ) → e ≡ min stop (length s) → a ≡ min start e → part a e s ≡ part start stop s
part_inside start stop a e s p q =
    lower_or_not e start
    (λ beyond.
    let none : e - a ≡ 0 = omega arith in
    ap (λ (n : ℕ). take n (drop a s)) none ∙ sym (nothing beyond))
    (λ within.
    let same : a ≡ start = omega arith in
    ap (λ (n : ℕ). take (e - n) (drop n s)) same ∙ up_to within)
  where
    nothing : e < start → part start stop s ≡ []
    nothing beyond =
        lower_or_not (length s) stop
        (λ longer. ap (take (stop - start)) (drop_of_length-le s {i = start} (omega arith)) ∙ take-nil (stop - start))
        (λ inside. let none : stop - start ≡ 0 = omega arith in ap (λ (n : ℕ). take n (drop start s)) none)

    up_to : start ≤ e → take (e - start) (drop start s) ≡ part start stop s
    up_to within =
        lower_or_not (length s) stop
        (λ longer.
        take_all (e - start) (drop start s) (omega (arith, length-drop start s)) ∙ sym (take_all (stop - start) (drop start s) (omega (arith, length-drop start s))))
        (λ inside. let same : e - start ≡ stop - start = omega arith in ap (λ (n : ℕ). take n (drop start s)) same)
