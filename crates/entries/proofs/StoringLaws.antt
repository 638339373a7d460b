-- Laws of `copy`'s loop: storing the entries from i on gives the whole copy, as i goes up. Assumes nothing.
use mathlib.Core.Path.{◌≡◌, sym, ap, ◌∙◌}
use Prim.Native.Nat.{ℕ, suc, ◌<◌, ◌≤◌, ◌+◌}
use native.Mathlib.Numerals.{add-one}
use mathlib.Core.List.{List, ◌∷◌}
use lib.ListN.{length, get_or, drop, drop_of_length-le}
use lib.Seq.{drop-cons}
use Rattle.spec.specs.Names.{most_entries}
use Rattle.spec.specs.Schema.{no_entry}
use Rattle.spec.specs.declared.Entry.{Entry}
use Rattle.entries.specs.Copied.{stored_at, stored_from, copied_to}
use Rattle.entries.proofs.CopyLaws.{few_all}

-- the entries before i are stored: those from i on make it the whole copy
abbrev pub SoFar : List Entry → List ℕ → ℕ → List ℕ → Type 0
SoFar es initial i now = stored_from now i (drop i es) ≡ stored_from initial 0 es

pub more : (es : List Entry) (initial now : List ℕ) (i : ℕ) (next : List ℕ) → i < length es → SoFar es initial i now → next ≡ stored_at now i (get_or es i no_entry) → SoFar es initial (i + 1) next
unfolding stored_from
more es initial now i next l so e =
    let left : stored_from now i (get_or es i no_entry ∷ drop (suc i) es) ≡ stored_from initial 0 es = rw (drop-cons es i no_entry) at so in
    rw e (ap (λ (k : ℕ). stored_from (stored_at now i (get_or es i no_entry)) (i + 1) (drop k es)) (add-one i) ∙ left)

pub ends : (es : List Entry) (initial now : List ℕ) (i : ℕ) → length es ≤ i → length es ≤ most_entries → SoFar es initial i now → now ≡ copied_to es initial
unfolding stored_from copied_to
ends es initial now i h few so =
    let all : now ≡ stored_from initial 0 es = rw (drop_of_length-le es h) at so in
    all ∙ ap (stored_from initial 0) (sym (few_all es few))
