-- Each promise of this crate allows one answer: it says that its parts, and what lent room and output hold at the end, equal what a definition gives for the
-- values at entry. Assumes nothing.
use Prim.Native.Nat.{ℕ}
use native.Mathlib.Omega.{arith}
use mathlib.Core.Path.{◌≡◌, sym, ap, ap₂, ◌∙◌}
use mathlib.Core.List.{List}
use Rattle.std.specs.Prelude.{Result, Ok, Err}
use Rattle.spec.specs.Told.{read_number, read_count, read_place}
use Rattle.spec.specs.Writing.{Writing, output}
use Rattle.spec.specs.declared.answers.Stopped.{Stopped}
use Rattle.spec.specs.declared.answers.Unwritten.{Unwritten}
use Rattle.spec.specs.declared.refusals.Refusal.{Refusal}
use Rattle.spec.proofs.ToldLaws.{refused, same_refusal, same_written}
use Rattle.segment.specs.Segment as segment
use Rattle.sizes.specs.Answers.{Tells}
use Rattle.segment.specs.Emit.{Told}

-- `read`, where the definition of the call gives q
same_reading : (a b : Result ℕ Stopped) → read_number a ≡ read_number b → read_count a ≡ read_count b → read_place a ≡ read_place b → a ≡ b
same_reading (Ok n) (Ok m) k c p = ap Ok c
same_reading (Ok n) (Err e) k c p = absurd (omega (arith, refused e.refusal))
same_reading (Err e) (Ok n) k c p = absurd (omega (arith, refused e.refusal))
same_reading (Err e) (Err f) k c p =
    ap (λ (r : Refusal). Err (record { refusal = r; count = e.count; place = e.place })) (same_refusal k)
    ∙ ap₂ (λ (n m : ℕ). Err (record { refusal = f.refusal; count = n; place = m })) c p

pub one_reading : (q : segment.Ranges) (a b : Result ℕ Stopped) (room x y : List ℕ) → Told q room a x → Told q room b y → (a ≡ b) × (x ≡ y)
one_reading q a b room x y h g =
    (same_reading a b (h.refusal ∙ sym g.refusal) (h.count ∙ sym g.count) (h.at ∙ sym g.at), h.leaves ∙ sym g.leaves)

-- `size`
pub one_size : (w : Writing) (r q : Result ℕ Unwritten) → Tells w r → Tells w q → r ≡ q
one_size w r q e f = same_written r q (e.number ∙ sym f.number) (e.size ∙ sym f.size) (e.index ∙ sym f.index)

-- `write`
pub one_write : (w : Writing) (out : List ℕ) (r q : Result ℕ Unwritten) {x y : List ℕ} → Tells w r → x ≡ output w out → Tells w q → y ≡ output w out
    → (r ≡ q) × (x ≡ y)
one_write w out r q e x f y = (one_size w r q e f, x ∙ sym y)
