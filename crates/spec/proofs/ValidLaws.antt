-- A call that ended well, taken apart and put together; and that what was read is a valid list, whose writing is no longer. Assumes nothing.
use Prim.Native.Nat.{ℕ, zero, suc, ◌≤◌}
use native.Mathlib.Omega.{arith}
use mathlib.Core.Path.{◌≡◌, refl, sym, ap, ◌∙◌}
use mathlib.Core.Bool.{Bool}
use mathlib.Core.List.{List, [], ◌∷◌}
use mathlib.Core.Option.{Option, none, some}
use lib.ListN.{length}
use lib.Dec.{ltb}
use borrow.Author.Tests.{ltb-false, le-ltb}
use Rattle.spec.specs.Names.{invalid_schema, no_room, too_large}
use Rattle.std.specs.Prelude.{if◌then◌else◌}
use Rattle.spec.specs.Base.{limit}
use Rattle.spec.specs.Schema.{bad_schema}
use Rattle.spec.specs.Record.{Record}
use Rattle.spec.specs.Reading.{Look, looking, Reading, Done, Refused, ◌then◌, after, within, refused_or, read, called, reading_by, reading_as}
use Rattle.spec.specs.Writing.{Fields, list_fault, schema_first, list_check}
use Rattle.spec.specs.Valid.{ReadingValid}
use Rattle.spec.proofs.Laws.{by_test}
use Rattle.spec.proofs.SchemaLaws.{schema_kinds}
use Rattle.spec.proofs.RoundTrip.{stands_self}
use Rattle.spec.proofs.TreeLaws.{tree_valid, tree_written}
use Rattle.spec.proofs.MadeLaws.{first_read, never_refused, made}

pub within_whole : (n : ℕ) (q : Reading) (rs : List Record) → within n q ≡ after rs Done → q ≡ after rs Done
unfolding within after
within_whole n Done rs e = e
within_whole n (Refused k p) rs e = e
within_whole zero (r then q) rs e = never_refused no_room r.tag rs e
within_whole (suc n) (r then q) rs e =
    let f = first_read r (within n q) rs e in
    ap (◌then◌ r) (within_whole n q f.0 f.2) ∙ ap (λ (x : List Record). after x Done) (sym f.1)

-- a call that ended well: the bytes are few enough, the schema is valid, and this is what its root reads
pub record Ended (bad : Option ℕ) (look : Look) (s : List ℕ) (rs : List Record) : Type 0 where
  pub small : length s ≤ limit
  pub good : bad ≡ none
  pub reads : read look 0 0 0 s ≡ after rs Done

pub ended : (bad : Option ℕ) (look : Look) (room : ℕ) (s : List ℕ) (rs : List Record) → reading_by bad look room s ≡ after rs Done → Ended bad look s rs
unfolding called reading_by refused_or
ended bad look room s rs e =
    by_test (ltb limit (length s))
    (λ p. never_refused too_large 0 rs (ap (λ (b : Bool). if b then Refused too_large 0 else refused_or bad (within room (read look 0 0 0 s))) (sym p) ∙ e))
    (λ p. go bad refl (ltb-false limit (length s) p)
    (ap (λ (b : Bool). if b then Refused too_large 0 else refused_or bad (within room (read look 0 0 0 s))) (sym p) ∙ e))
  where
    go : (o : Option ℕ) → bad ≡ o → length s ≤ limit → refused_or o (within room (read look 0 0 0 s)) ≡ after rs Done → Ended bad look s rs
    go none q l f = record { small = l; good = q; reads = within_whole room (read look 0 0 0 s) rs f }
    go (some i) q l f = never_refused invalid_schema i rs f

-- and one that goes so
pub goes : (bad : Option ℕ) (look : Look) (room : ℕ) (s : List ℕ) → length s ≤ limit → bad ≡ none → reading_by bad look room s ≡ within room (read look 0 0 0 s)
unfolding called reading_by refused_or
goes bad look room s h v =
    ap (λ (b : Bool). if b then Refused too_large 0 else refused_or bad (within room (read look 0 0 0 s))) (le-ltb limit (length s) h)
    ∙ ap (λ (o : Option ℕ). refused_or o (within room (read look 0 0 0 s))) v

-- ---- the law

pub reading_valid : ReadingValid
unfolding reading_as list_check schema_first
reading_valid mode unasked sch room s rs bs e =
    let x = ended (bad_schema sch) (looking mode sch) room s rs e in
    let m = made mode unasked sch (schema_kinds sch x.good) s (length s) s (omega arith) 0 0 0 (stands_self s) bs rs x.reads in
    record {
      valid = ap (λ (o : Option ℕ). schema_first o (list_fault sch s 0 (Fields 0 ∷ []) rs)) x.good ∙ tree_valid sch s m.1;
      no_longer = omega (arith, m.2, ap length (tree_written sch s m.1));
    }
