-- Laws of the copy: five numbers stored are the numbers of an entry, entry by entry they are the numbers of all, and what is lent on is the schema's.
-- Assumes nothing.
use Prim.Native.Nat.{ℕ, ◌+◌, ◌*◌, ◌≤◌, ◌<◌}
use native.Mathlib.Nat.{zero-add, add-zero, suc-add}
use native.Mathlib.Omega.{arith}
use mathlib.Core.Path.{◌≡◌, refl, sym, ap, ◌∙◌}
use mathlib.Core.Bool.{Bool, true, false}
use mir.Val.{bool_byte}
use mathlib.Core.List.{List, [], ◌∷◌, ◌++◌, append_assoc}
use lib.ListN.{length, set, drop, length-append, length-drop}
use lib.Seq.{drop-drop}
use borrow.Author.Tests.{lt-ltb, le-ltb}
use Rattle.spec.specs.Names.{child_column, entry_kind_column, entry_number_column, most_entries, repeated_column}
use Rattle.spec.specs.Base.{filled}
use Rattle.spec.specs.Schema.{bit, copied, entry_stride}
use Rattle.spec.specs.declared.Entry.{Entry}
use Rattle.spec.proofs.VarintLaws.{lower_or_not}
use Rattle.entries.specs.Copied.{most_numbers, few, stored_at, stored_from, copied_to}

-- what `u32::from` makes of a bool
pub byte_bit : (b : Bool) → bool_byte b ≡ bit b
byte_bit true = refl
byte_bit false = refl

-- ---- a store after p is a store in what follows p

set_off : (p t : List ℕ) (n j v : ℕ) → length p ≡ n → set (p ++ t) (n + j) v ≡ p ++ set t j v
set_off [] t n j v e = rw (← e, zero-add)
set_off (y ∷ p) t n j v e = rw (← e, suc-add) (ap (λ (l : List ℕ). y ∷ l) (set_off p t (length p) j v refl))

set_first : (p t : List ℕ) (n v : ℕ) → length p ≡ n → set (p ++ t) n v ≡ p ++ set t 0 v
set_first p t n v e = ap (λ (k : ℕ). set (p ++ t) k v) (sym (add-zero n)) ∙ set_off p t n 0 v e

numbers_behind : (p t : List ℕ) (i : ℕ) (e : Entry) → length p ≡ i * entry_stride → entry_stride ≤ length t → stored_at (p ++ t) i e ≡ (p ++ copied (e ∷ [])) ++ drop entry_stride t
unfolding stored_at copied
numbers_behind p (a ∷ b ∷ c ∷ d ∷ x ∷ t) i e l h =
    rw (
      set_first p (a ∷ b ∷ c ∷ d ∷ x ∷ t) (i * entry_stride) e.owner l,
      set_off p (e.owner ∷ b ∷ c ∷ d ∷ x ∷ t) (i * entry_stride) entry_number_column e.number l,
      set_off p (e.owner ∷ e.number ∷ c ∷ d ∷ x ∷ t) (i * entry_stride) entry_kind_column e.kind l,
      set_off p (e.owner ∷ e.number ∷ e.kind ∷ d ∷ x ∷ t) (i * entry_stride) repeated_column (bit e.repeated) l,
      set_off p (e.owner ∷ e.number ∷ e.kind ∷ bit e.repeated ∷ x ∷ t) (i * entry_stride) child_column e.child l,
    ) (sym (append_assoc p (copied (e ∷ [])) t))
numbers_behind p [] i e l h = absurd (omega arith)
numbers_behind p (a ∷ []) i e l h = absurd (omega arith)
numbers_behind p (a ∷ b ∷ []) i e l h = absurd (omega arith)
numbers_behind p (a ∷ b ∷ c ∷ []) i e l h = absurd (omega arith)
numbers_behind p (a ∷ b ∷ c ∷ d ∷ []) i e l h = absurd (omega arith)

all_behind : (es : List Entry) (p t : List ℕ) (i : ℕ) → length p ≡ i * entry_stride → length es * entry_stride ≤ length t → stored_from (p ++ t) i es ≡ p ++ filled (copied es) t
unfolding stored_from copied
all_behind [] p t i l h = refl
all_behind (e ∷ es) p t i l h =
    let longer : length (p ++ copied (e ∷ [])) ≡ (i + 1) * entry_stride = rw (length-append p (copied (e ∷ [])), l) (omega arith) in
    let more : entry_stride + length (copied es) ≡ length (copied (e ∷ es)) = omega arith in
    ap (λ (a : List ℕ). stored_from a (i + 1) es) (numbers_behind p t i e l (omega arith))
    ∙ all_behind es (p ++ copied (e ∷ [])) (drop entry_stride t) (i + 1) longer (omega (arith, length-drop entry_stride t))
    ∙ append_assoc p (copied (e ∷ [])) (copied es ++ drop (length (copied es)) (drop entry_stride t))
    ∙ ap (λ (r : List ℕ). p ++ (copied (e ∷ es) ++ r)) (drop-drop (length (copied es)) entry_stride t ∙ ap (λ (n : ℕ). drop n t) more)

-- ---- at most as many as a schema may have

few_none : (es : List Entry) → most_entries < length es → few es ≡ []
unfolding few
few_none es h = rw (lt-ltb most_entries (length es) h)

pub few_all : (es : List Entry) → length es ≤ most_entries → few es ≡ es
unfolding few
few_all es h = rw (le-ltb most_entries (length es) h)

-- of more entries none is stored
pub copied_none : (es : List Entry) (a : List ℕ) → most_entries < length es → copied_to es a ≡ a
unfolding copied_to stored_from
copied_none es a h = ap (stored_from a 0) (few_none es h)

-- ---- where the array has room for so many

pub copied_to_lem : (es : List Entry) (a : List ℕ) → length a ≡ most_numbers → copied_to es a ≡ filled (copied (few es)) a
unfolding copied_to
copied_to_lem es a l =
    let fits : length (few es) ≤ most_entries = lower_or_not most_entries (length es) (λ c. rw (few_none es c) (omega arith)) (λ c. rw (few_all es c) c) in
    all_behind (few es) [] a 0 refl (omega arith)
