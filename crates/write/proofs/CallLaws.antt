-- Laws of the two calls: what the check says of a list, what the answer for a list without fault is by its size, and what a caller may rely on.
-- Assumes nothing.
use Prim.Native.Nat.{ℕ, ◌≤◌}
use native.Mathlib.Omega.{arith}
use mathlib.Core.Path.{◌≡◌, refl, sym, ap, ◌∙◌}
use mathlib.Core.Option.{none}
use mathlib.Core.Bool.{true}
use mathlib.Core.List.{List, [], ◌∷◌}
use lib.ListN.{length}
use Rattle.std.specs.Prelude.{Result, Ok, Err}
use Rattle.spec.specs.Told.{number_of, unwritten_of, written_number, written_size}
use Rattle.spec.specs.declared.answers.Fault.{Fault}
use Rattle.spec.specs.declared.answers.Unwritten.{Unwritten}
use Rattle.spec.specs.Base.{filled, limit}
use Rattle.spec.specs.Schema.{Schema, bad_schema}
use Rattle.spec.specs.Record.{Record, records_of}
use Rattle.spec.specs.Sizes.{size_of}
use Rattle.spec.specs.Writing.{Fields, written, Verdict, Fine, Faulty, list_fault, list_check, Writing, Failed, number, size, index, output, judged, sized, writing, sizing}
use Rattle.spec.proofs.ToldLaws.{refused, same_written}
use Rattle.spec.proofs.VarintLaws.{lower_or_not}
use Rattle.spec.proofs.SizeLaws.{Held, size_bytes, fine_held, Answered, wrote, short, above, faulty, sized_above, sized_short, sized_fits, writing_answered, output_refused}
use Rattle.spec.proofs.ListLaws.{accepted}
use Rattle.spec.proofs.RunLaws.{fine_passed}
use Rattle.sizes.specs.SizeParts.{capped}
use Rattle.sizes.specs.Answers.{Tells}
use Rattle.sizes.proofs.AnswerLaws.{cut_once, tells_as}
use Rattle.write.specs.Backward.{Given}

-- ---- what a caller may rely on

-- the answer and the output that a writing leaves
abbrev pub Answers : Writing → Result ℕ Unwritten → (out out' : List ℕ) → Type 0
Answers w a out out' = Tells w a × (out' ≡ output w out)

-- any two answers to a call, and any two outputs, are equal
pub one_answer : (w : Writing) (a b : Result ℕ Unwritten) (out x y : List ℕ) → Answers w a out x → Answers w b out y → (a ≡ b) × (x ≡ y)
one_answer w a b out x y h g = (same_written a b (h.0.number ∙ sym g.0.number) (h.0.size ∙ sym g.0.size) (h.0.index ∙ sym g.0.index), h.1 ∙ sym g.1)

-- where nothing is refused, the bytes of the list are at the front of the output, the size is how many they are, and what is after them stays
pub told_written : (sch : Schema) (room : ℕ) (payload : List ℕ) (rs : List Record) (out : List ℕ) {r : Result ℕ Unwritten} → Tells (writing sch room payload rs) r → written_number r ≡ 0
    → (written_size r ≡ length (written payload rs)) × (output (writing sch room payload rs) out ≡ filled (written payload rs) out)
unfolding number size output
told_written sch room payload rs out t z = go (writing_answered sch room payload rs) t z
  where
    go : {w : Writing} {r : Result ℕ Unwritten} → Answered room (written payload rs) w → Tells w r → written_number r ≡ 0 → (written_size r ≡ length (written payload rs)) × (output w out ≡ filled (written payload rs) out)
    go (wrote h j) t z = (t.size, refl)
    go (short h j) t z = absurd (omega (arith, t.number))
    go (above h) t z = absurd (omega (arith, t.number))
    go (faulty h j) t z = absurd (omega (arith, t.number))

-- ---- what the check says

-- the schema is valid, and so is every record
pub check_fine : (sch : Schema) (payload : List ℕ) (rs : List Record) → list_check sch payload rs ≡ Fine
    → (bad_schema sch ≡ none) × (list_fault sch payload 0 (Fields 0 ∷ []) rs ≡ Fine)
unfolding list_check
check_fine sch payload rs e = accepted (bad_schema sch) (list_fault sch payload 0 (Fields 0 ∷ []) rs) e

pub check_given : (sch : Schema) (payload list : List ℕ) → list_check sch payload (records_of list) ≡ Fine → Given list payload
check_given sch payload list e =
    let f = check_fine sch payload (records_of list) e in
    record { passed = fine_passed sch payload (records_of list) f.0 f.1; held = fine_held sch payload 0 (Fields 0 ∷ []) (records_of list) f.1 }

module _ (sch : Schema) (room : ℕ) (payload : List ℕ) (rs : List Record) where
  pub writing_fine : list_check sch payload rs ≡ Fine → writing sch room payload rs ≡ sized room (written payload rs)
  unfolding writing judged
  writing_fine e = ap (λ (v : Verdict). judged v (sized room (written payload rs))) e

  writing_faulty : {k i : ℕ} → list_check sch payload rs ≡ Faulty k i → writing sch room payload rs ≡ Failed k 0 i
  unfolding writing judged
  writing_faulty e = ap (λ (v : Verdict). judged v (sized room (written payload rs))) e

  pub told_faulty : (f : Fault) → list_check sch payload rs ≡ Faulty (number_of f.refusal) f.index → Tells (writing sch room payload rs) (Err (unwritten_of f))
  unfolding number size index
  told_faulty f e = tells_as (writing_faulty e) (record { number = refl; size = refl; index = refl })

  pub output_faulty : {k i : ℕ} (out : List ℕ) → list_check sch payload rs ≡ Faulty k i → output (writing sch room payload rs) out ≡ out
  unfolding output
  output_faulty out e = ap (λ (w : Writing). output w out) (writing_faulty e)

-- ---- by its size

module _ (room : ℕ) (b : List ℕ) where
  -- what the answer says of the output then
  pub sized_ok : {n : ℕ} (out : List ℕ) → Tells (sized room b) (Ok n) → (n ≡ length b) × (length b ≤ room) × (output (sized room b) out ≡ filled b out)
  unfolding number size output
  sized_ok out t =
      lower_or_not limit (length b)
      (λ l. absurd (omega (arith, t.number ∙ ap number (sized_above room b l))))
      (λ l. lower_or_not room (length b)
      (λ m. absurd (omega (arith, t.number ∙ ap number (sized_short room b l m))))
      (λ m. (t.size ∙ ap size (sized_fits room b l m), m, ap (λ (w : Writing). output w out) (sized_fits room b l m))))

  pub sized_err : {e : Unwritten} (out : List ℕ) → Tells (sized room b) (Err e) → output (sized room b) out ≡ out
  sized_err {e} out t = output_refused (sized room b) out (λ z. let none : number_of e.refusal ≡ 0 = t.number ∙ z in absurd (omega (arith, refused e.refusal, none)))

-- the answer from the size of a list whose contents lie in the payload, which is how many bytes it is written as
pub by_written : (room : ℕ) (payload : List ℕ) (rs : List Record) {r : Result ℕ Unwritten} {n : ℕ} → Held payload rs
    → ((s : List ℕ) → capped n ≡ capped (length s) → Tells (sized room s) r) → n ≡ capped (size_of rs) → Tells (sized room (written payload rs)) r
unfolding size_of written
by_written room payload rs {n = n} h told is = told (written payload rs) (cut_once n (length (written payload rs)) (is ∙ ap capped (size_bytes (length rs) true payload rs h)))

-- ---- the size call

module _ (sch : Schema) (payload : List ℕ) (rs : List Record) where
  pub size_faulty : (f : Fault) → list_check sch payload rs ≡ Faulty (number_of f.refusal) f.index → Tells (sizing sch payload rs) (Err (unwritten_of f))
  unfolding sizing
  size_faulty f e = told_faulty sch limit payload rs f e

  pub size_fine : {r : Result ℕ Unwritten} {n : ℕ} → list_check sch payload rs ≡ Fine → ((s : List ℕ) → capped n ≡ capped (length s) → Tells (sized limit s) r) → n ≡ capped (size_of rs) → Tells (sizing sch payload rs) r
  unfolding sizing
  size_fine e is cut =
      tells_as (writing_fine sch limit payload rs e) (by_written limit payload rs (fine_held sch payload 0 (Fields 0 ∷ []) rs (check_fine sch payload rs e).1) is cut)
