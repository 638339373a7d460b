-- Laws of the reader's calls: what each puts together says what its definition says; and that any two answers to a call are equal.
-- Assumes nothing.
use Prim.Native.Nat.{ℕ}
use mathlib.Core.Path.{◌≡◌, refl, sym, ap, ◌∙◌}
use mathlib.Core.List.{List, []}
use mathlib.Core.Bool.{Bool, true, false}
use lib.ListN.{length}
use lib.Dec.{ltb}
use denote.Ref.{Bor}
use Rattle.spec.specs.Names.{too_large}
use Rattle.std.specs.Prelude.{if◌then◌else◌, Option, Result}
use Rattle.spec.specs.declared.refusals.Refusal.{Refusal}
use Rattle.spec.specs.Base.{part, limit}
use Rattle.spec.specs.Pull as spec
use Rattle.spec.specs.Pull.{says, reader, opened, stepped, entered, step_at, enter_at}
use Rattle.pull.specs.declared.step.Ask.{Ask}
use Rattle.pull.specs.declared.step.Said.{Said}
use Rattle.pull.specs.declared.step.Refused.{Refused}
use Rattle.pull.specs.declared.step.Moved.{Moved}
use Rattle.pull.specs.declared.step.Gate.{Gate}
use Rattle.pull.specs.declared.reader.Reader.{Reader}
use Rattle.pull.specs.declared.reader.Opened.{Opened}
use Rattle.pull.specs.declared.reader.Stepped.{Stepped}
use Rattle.pull.specs.declared.reader.Entered.{Entered}
use Rattle.pull.specs.declared.reader.Once.{Once}
use Rattle.pull.specs.Told.{said_told, as_moved, asked, Gated}
use Rattle.pull.specs.Reader.{reader_told, opened_told, stepped_told, entered_told, Entering, once_told, opening_number, open_number, first_part}
use Rattle.pull.proofs.StepLaws.{one_said}

-- ---- opening

abbrev pub opening : Option Refusal → Bor (List ℕ) → Opened
opening n p = record { refused = n; reader = record { s = p; at = 0; level = 0 } }

pub open_says : (s : List ℕ) (n : Option Refusal) (p : Bor (List ℕ)) → opening_number n ≡ open_number s → p.now ≡ first_part s → opened_told (opening n p) ≡ opened s
unfolding opened
open_says s n p e f =
    ap (λ (k : ℕ). opened_as k p.now) e ∙ ap (opened_as (open_number s)) f ∙ go (ltb limit (length s))
  where
    opened_as : ℕ → List ℕ → spec.Opened
    opened_as k b = record { number = k; reader = reader b 0 0 }

    go : (b : Bool) → opened_as (if b then too_large else 0) (if b then [] else s) ≡ (if b then opened_as too_large [] else opened_as 0 s)
    go true = refl
    go false = refl

-- ---- a step

abbrev pub stepping : Reader → Moved → Stepped
stepping d m = record { said = m.said; reader = record { s = d.s; at = m.at; level = d.level } }

module _ (d : Reader) (ask : Ask) where
  pub step_says : (m : Moved) → as_moved m ≡ step_at d.s.now d.at d.level (asked ask) → stepped_told (stepping d m) ≡ stepped (reader_told d) (asked ask)
  unfolding stepped
  step_says m e = ap (λ (x : spec.Moved). record { said = x.said; reader = reader d.s.now x.at d.level }) e

  -- and back: what it said, and where it is
  pub step_moves : (n : Stepped) → stepped_told n ≡ stepped (reader_told d) (asked ask) → says (said_told n.said) n.reader.at ≡ step_at d.s.now d.at d.level (asked ask)
  unfolding stepped
  step_moves n e = ap (λ (x : spec.Stepped). says x.said x.reader.at) e

-- ---- entering

pub enter_says : (d : Reader) (g : Gate) (p : Bor (List ℕ)) → Gated d.s.now d.at d.level g → p.now ≡ part g.start g.end d.s.now
    → entered_told (record { said = g.said; inner = record { s = p; at = 0; level = g.level }; outer = record { s = d.s; at = g.at; level = d.level } }) ≡ entered (reader_told d)
unfolding entered
enter_says d g p h c =
    let m = enter_at d.s.now d.at d.level in
    let i : reader p.now 0 g.level ≡ spec.inner_of (reader_told d) m.said = ap (λ (b : List ℕ). reader b 0 g.level) c ∙ h.inner in
    ap (λ (x : spec.Reader). record { said = said_told g.said; inner = x; outer = reader d.s.now g.at d.level }) i
    ∙ ap (λ (x : spec.Moved). record { said = x.said; inner = spec.inner_of (reader_told d) m.said; outer = reader d.s.now x.at d.level }) h.moves

-- ---- one answer

-- Opening and entering give a part of the slice: that it has the same bytes is all that can be said of it.
pub one_opened : (s : List ℕ) (x y : Opened) → opened_told x ≡ opened s → opened_told y ≡ opened s → opened_told x ≡ opened_told y
one_opened s x y e f = e ∙ sym f

pub one_entered : (r : spec.Reader) (x y : Entered) → entered_told x ≡ entered r → entered_told y ≡ entered r → entered_told x ≡ entered_told y
one_entered r x y e f = e ∙ sym f

pub one_stepped : (d : Reader) (m : spec.Stepped) (x y : Stepped) → (stepped_told x ≡ m) × (x.reader.s ≡ d.s) → (stepped_told y ≡ m) × (y.reader.s ≡ d.s) → x ≡ y
one_stepped d m x y e f =
    let h : stepped_told x ≡ stepped_told y = e.0 ∙ sym f.0 in
    ap (λ (a : Result Said Refused). made a x.reader.s x.reader.at x.reader.level) (one_said (ap (λ (z : spec.Stepped). z.said) h))
    ∙ ap (λ (a : Bor (List ℕ)). made y.said a x.reader.at x.reader.level) (e.1 ∙ sym f.1)
    ∙ ap (λ (z : spec.Stepped). made y.said y.reader.s z.reader.at z.reader.level) h
  where
    made : Result Said Refused → Bor (List ℕ) → ℕ → ℕ → Stepped
    made a s at level = record { said = a; reader = record { s = s; at = at; level = level } }

pub one_once : (m : Entering) (x y : Once) → once_told x ≡ m → once_told y ≡ m → x ≡ y
one_once m x y e f =
    let h : once_told x ≡ once_told y = e ∙ sym f in
    ap (λ (a : Result Said Refused). made a x.at x.level) (one_said (ap (λ (z : Entering). z.said) h)) ∙ ap (λ (z : Entering). made y.said z.at z.level) h
  where
    made : Result Said Refused → ℕ → ℕ → Once
    made a at level = record { said = a; at = at; level = level }
