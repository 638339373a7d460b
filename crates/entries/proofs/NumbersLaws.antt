-- Laws of entries that are made of numbers: one after the other they are the entries of the definition, and the schema of those that are made is as good, or as
-- bad, as that of all. Assumes nothing.
use Prim.Native.Nat.{ℕ, zero, suc, ◌+◌, ◌*◌, ◌/◌, ◌%◌, ◌≤◌, ◌<◌, min}
use native.Mathlib.Nat.{add-zero}
use native.Mathlib.Numerals.{add-one}
use native.Mathlib.Omega.{arith}
use mathlib.Core.Path.{◌≡◌, refl, sym, ap, ap₂, ◌∙◌}
use mathlib.Core.Bool.{true, false}
use mathlib.Core.Option.{some}
use mathlib.Core.List.{List, [], ◌∷◌, ◌++◌}
use lib.ListN.{length, take, drop, set}
use lib.Seq.{drop-drop, get_or-drop, take_all, take-suc-set}
use Rattle.std.proofs.lemmas.List.{drop-set-lt}
use lib.Dec.{eqb}
use Rattle.spec.specs.Schema.{Schema, bad_schema, entries_of, schema_of, entry_stride}
use Rattle.spec.specs.declared.Entry.{Entry}
use Rattle.spec.proofs.Laws.{by_test}
use Rattle.spec.proofs.SchemaLaws.{first_entry, length_entries}
use Rattle.spec.proofs.VarintLaws.{lower_or_not}
use Rattle.entries.specs.Copied.{one_more, made_entries, entry_at, types_of, first_entries}
use Rattle.entries.proofs.LentLaws.{Alike, one, bad, many_bad}

-- ---- one entry more

entry_behind : (ns : List ℕ) (i : ℕ) → first_entry (drop i ns) ≡ entry_at ns i
entry_behind ns i = simp (get_or-drop i ns, add-zero)

entries_more : (k : ℕ) (ns : List ℕ) → entries_of (suc k) ns ≡ entries_of k ns ++ (first_entry (drop (entry_stride * k) ns) ∷ [])
unfolding entries_of
entries_more zero ns = refl
entries_more (suc k) ns =
    let further : entry_stride + entry_stride * k ≡ entry_stride * suc k = omega arith in
    ap (λ (l : List Entry). first_entry ns ∷ l)
    (entries_more k (drop entry_stride ns) ∙ ap (λ (l : List ℕ). entries_of k (drop entry_stride ns) ++ (first_entry l ∷ [])) (drop-drop (entry_stride * k) entry_stride ns ∙ ap (λ (n : ℕ). drop n ns) further))

-- the loop of `made`: of a room, the first i entries are made, and the others are as they were
pub record Here (ns : List ℕ) (first : List Entry) (i : ℕ) (es : List Entry) : Type 0 where
  pub front : take i es ≡ entries_of i ns
  pub rest : drop i es ≡ drop i first

pub here_first : (ns : List ℕ) (first : List Entry) → Here ns first 0 first
unfolding entries_of
here_first ns first = record { front = refl; rest = refl }

pub here_next : (ns : List ℕ) (first : List Entry) (i j : ℕ) (es : List Entry) (e : Entry) → i < length es → j ≡ i * entry_stride → Here ns first i es → e ≡ entry_at ns j
    → Here ns first (i + 1) (set es i e)
here_next ns first i j es e inside at h is =
    let place : j ≡ entry_stride * i = omega (arith, at) in
    record {
      front =
          ap (λ (k : ℕ). take k (set es i e)) (add-one i)
          ∙ take-suc-set es i e inside
          ∙ ap₂ (λ (l : List Entry) (x : Entry). l ++ (x ∷ [])) h.front (is ∙ ap (entry_at ns) place ∙ sym (entry_behind ns (entry_stride * i)))
          ∙ sym (entries_more i ns)
          ∙ ap (λ (k : ℕ). entries_of k ns) (sym (add-one i));
      rest = drop-set-lt (i + 1) es i e (omega arith) ∙ sym (drop-drop 1 i es) ∙ ap (drop 1) h.rest ∙ drop-drop 1 i first;
    }

-- what `made` leaves at the front of a room of so many
pub made_front : (ns : List ℕ) (most k : ℕ) {front : List Entry} → k ≡ min (length ns / entry_stride) most → front ≡ entries_of k ns
    → front ≡ entries_of (min (length ns / entry_stride) most) ns
made_front ns most k many is = is ∙ ap (λ (n : ℕ). entries_of n ns) many

-- ---- how many are made

schema_rest : (types : ℕ) (ns : List ℕ) → eqb (length ns % entry_stride) 0 ≡ false → schema_of types ns ≡ record { types = 0; entries = [] }
unfolding schema_of
schema_rest types ns e = rw e

schema_whole : (types : ℕ) (ns : List ℕ) → eqb (length ns % entry_stride) 0 ≡ true → schema_of types ns ≡ record { types = types; entries = entries_of (length ns / entry_stride) ns }
unfolding schema_of
schema_whole types ns e = rw e

types_rest : (types n : ℕ) → eqb (n % entry_stride) 0 ≡ false → types_of types n ≡ 0
unfolding types_of
types_rest types n e = rw e

types_whole : (types n : ℕ) → eqb (n % entry_stride) 0 ≡ true → types_of types n ≡ types
unfolding types_of
types_whole types n e = rw e

no_types : (es : List Entry) → bad_schema (record { types = 0; entries = es }) ≡ some 0
unfolding bad_schema
no_types es = refl

-- What the entries are matters only where the numbers are whole entries: with a remainder the schema has no types, and is bad whatever they are.
alike_of : (types : ℕ) (ns : List ℕ) (es : List Entry) → (eqb (length ns % entry_stride) 0 ≡ true → es ≡ entries_of (min (length ns / entry_stride) one_more) ns)
    → Alike (record { types = types_of types (length ns); entries = es }) (schema_of types ns)
alike_of types ns es is =
    let n : ℕ = length ns / entry_stride in
    by_test (eqb (length ns % entry_stride) 0)
    (λ e.
    lower_or_not one_more n
    (λ h.
    let few : min n one_more ≡ one_more = omega arith in
    rw (types_whole types (length ns) e, is e, few, schema_whole types ns e)
    (bad (many_bad types (entries_of one_more ns) (rw (length_entries one_more ns) (omega arith))) (many_bad types (entries_of n ns) (rw (length_entries n ns) (omega arith)))))
    (λ h.
    let all : min n one_more ≡ n = omega arith in
    rw (is e) (one (ap₂ (λ (t k : ℕ). record { types = t; entries = entries_of k ns }) (types_whole types (length ns) e) all ∙ sym (schema_whole types ns e)))))
    (λ e. rw (types_rest types (length ns) e, schema_rest types ns e) (bad (no_types es) (no_types [])))

-- the schema of the entries that `made` makes in a room of one entry more than a schema may have
abbrev pub made : ℕ → List ℕ → Schema
made types ns = record { types = types_of types (length ns); entries = entries_of (min (length ns / entry_stride) one_more) ns }

-- Nothing here cites it: it is for a caller of `made` in another repository (docs/LOOK-BACK.md).
pub made_alike : (types : ℕ) (ns : List ℕ) → Alike (made types ns) (schema_of types ns)
made_alike types ns = alike_of types ns (entries_of (min (length ns / entry_stride) one_more) ns) (λ e. refl)

-- the schema of the entries that `made_whole` makes
abbrev pub whole_made : ℕ → List ℕ → Schema
whole_made types ns = record { types = types_of types (length ns); entries = made_entries ns }

pub whole_alike : (types : ℕ) (ns : List ℕ) → Alike (whole_made types ns) (schema_of types ns)
whole_alike types ns = alike_of types ns (made_entries ns) (λ e. rw e refl)

-- ---- those that a lookup sees

first_of : (j k : ℕ) (ns : List ℕ) → j ≤ k → take j (entries_of k ns) ≡ entries_of j ns
unfolding entries_of
first_of zero k ns h = refl
first_of (suc j) zero ns h = absurd (omega arith)
first_of (suc j) (suc k) ns h = ap (λ (l : List Entry). first_entry ns ∷ l) (first_of j k (drop entry_stride ns) (omega arith))

pub first_none : (ns : List ℕ) → eqb (length ns % entry_stride) 0 ≡ false → first_entries ns ≡ []
unfolding first_entries
first_none ns e = ap (λ (x : Schema). take one_more x.entries) (schema_rest 0 ns e)

pub first_made : (ns : List ℕ) → eqb (length ns % entry_stride) 0 ≡ true → entries_of (min (length ns / entry_stride) one_more) ns ≡ first_entries ns
unfolding first_entries
first_made ns e =
    let n : ℕ = length ns / entry_stride in
    let all = ap (λ (x : Schema). take one_more x.entries) (schema_whole 0 ns e) in
    lower_or_not one_more n
    (λ h.
    let few : min n one_more ≡ one_more = omega arith in
    ap (λ (k : ℕ). entries_of k ns) few ∙ sym (first_of one_more n ns (omega arith)) ∙ sym all)
    (λ h.
    let every : min n one_more ≡ n = omega arith in
    let short : length (entries_of n ns) ≤ one_more = rw (length_entries n ns) h in
    ap (λ (k : ℕ). entries_of k ns) every ∙ sym (take_all one_more (entries_of n ns) short) ∙ sym all)
