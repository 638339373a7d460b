-- Laws of the texts of answers. Assumes nothing.
use native.Mathlib.Omega.{arith}
use Rattle.std.proofs.Common.{◌≡◌, ap, ◌∙◌, ℕ, ◌*◌, ◌<◌, Bool, true, false, not, nat_eq, min, List, [], ◌∷◌, length, take, drop, Result, Ok, Err}
use Rattle.std.specs.List.{list_any}
use Rattle.std.proofs.lemmas.List.{length-take, take_min, drop_min}
use Rattle.spec.specs.Told.{number_of, read_number, read_count, read_place, written_number, written_size, written_index}
use Rattle.spec.specs.declared.refusals.Refusal.{Refusal}
use Rattle.printing.specs.Text.{blank, refused_text, decimal, hexadecimal, rows}
use Rattle.printing.specs.Page.{Adds}
use Rattle.printing.specs.Watched.{three, size_or_refusal, touched_text, touched_if, changed, sent, reading_text, writing_text, none_text, rows_or_none, bytes_or_none}
use Rattle.spec.specs.declared.answers.Stopped.{Stopped}
use Rattle.spec.specs.declared.answers.Unwritten.{Unwritten}
use Rattle.printing.specs.declared.Page.{Page}
use Rattle.printing.specs.declared.Layout.{Layout}
use Rattle.printing.proofs.TextLaws.{adds_none, adds_join}

pub three_added : {p q r s t u : Page} (a b c : ℕ) → Adds p (decimal a) q → Adds q (blank ∷ []) r → Adds r (decimal b) s → Adds s (blank ∷ []) t
    → Adds t (decimal c) u → Adds p (three a b c) u
unfolding three
three_added a b c v w x y z = adds_join v (adds_join w (adds_join x (adds_join y z)))

pub size_added : {p q : Page} (size : ℕ) → Adds p (decimal size) q → Adds p (size_or_refusal (Ok size)) q
unfolding size_or_refusal
size_added size x = x

pub refusal_added : {p q r : Page} (refusal : Refusal) → Adds p refused_text q → Adds q (decimal (number_of refusal)) r → Adds p (size_or_refusal (Err refusal)) r
unfolding size_or_refusal
refusal_added refusal x y = adds_join x y

pub touched_added : {p q : Page} {b : Bool} → b ≡ true → Adds p touched_text q → Adds p (touched_if b) q
unfolding touched_if
touched_added e x = rw e x

pub untouched_added : {p : Page} {b : Bool} → b ≡ false → Adds p (touched_if b) p
unfolding touched_if
untouched_added e = rw e adds_none

pub no_rows_added : {p q : Page} (layout : Layout) (list : List ℕ) → length list ≡ 0 → Adds p none_text q → Adds p (rows_or_none layout list) q
unfolding rows_or_none
no_rows_added layout [] e x = x
no_rows_added layout (n ∷ ns) e x = absurd (omega (arith, e))

pub rows_added : {p q : Page} (layout : Layout) (list : List ℕ) → 0 < length list
    → Adds p (rows layout.last layout.first layout.between layout.within 0 list) q → Adds p (rows_or_none layout list) q
unfolding rows_or_none
rows_added layout [] e x = absurd (omega (arith, e))
rows_added layout (n ∷ ns) e x = x

pub no_bytes_added : {p q : Page} (list : List ℕ) → length list ≡ 0 → Adds p none_text q → Adds p (bytes_or_none list) q
unfolding bytes_or_none
no_bytes_added [] e x = x
no_bytes_added (b ∷ bs) e x = absurd (omega (arith, e))

pub bytes_added : {p q r : Page} (list : List ℕ) → 0 < length list → Adds p (blank ∷ []) q → Adds q (hexadecimal list) r → Adds p (bytes_or_none list) r
unfolding bytes_or_none
bytes_added [] e x y = absurd (omega (arith, e))
bytes_added (b ∷ bs) e x y = adds_join x y

-- a part of a list and what stands after it
after_part : (n : ℕ) (xs ys : List ℕ) → ys ≡ take n xs → drop (length ys) xs ≡ drop n xs
after_part n xs ys e = ap (λ (y : List ℕ). drop (length y) xs) e ∙ ap (λ (k : ℕ). drop k xs) (length-take n xs) ∙ drop_min n xs

module _ {p q r s : Page} where
  pub reading_added : (read : Result ℕ Stopped) (stride : ℕ) (layout : Layout) (pattern : ℕ) (room listed : List ℕ) → listed ≡ take (read_count read * stride) room
      → Adds p (three (read_number read) (read_count read) (read_place read)) q → Adds q (rows_or_none layout listed) r
      → Adds r (touched_if (list_any (λ n. not (nat_eq n pattern)) (drop (length listed) room))) s → Adds p (reading_text read stride layout pattern room) s
  unfolding reading_text changed
  reading_added read stride layout pattern room listed e x y z =
      adds_join x (adds_join (rw e at y) (rw (after_part (read_count read * stride) room listed e) at z))

  pub writing_added : (wrote : Result ℕ Unwritten) (pattern : ℕ) (output : List ℕ) (end : ℕ) → end ≡ min (sent wrote) (length output)
      → Adds p (three (written_number wrote) (written_size wrote) (written_index wrote)) q → Adds q (bytes_or_none (take end output)) r
      → Adds r (touched_if (list_any (λ n. not (nat_eq n pattern)) (drop end output))) s → Adds p (writing_text wrote pattern output) s
  unfolding writing_text changed
  writing_added wrote pattern output end e x y z =
      adds_join x (adds_join (rw (e, take_min (sent wrote) output) at y) (rw (e, drop_min (sent wrote) output) at z))
