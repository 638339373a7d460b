-- Older is transitive, and what was read under an older schema is a valid list of it; so demand 3 holds again of a still older one. Assumes nothing.
use Prim.Native.Nat.{ℕ, ◌≤◌}
use native.Mathlib.Omega.{arith}
use mathlib.Core.Path.{◌≡◌, refl, sym, ap, ◌∙◌, subst}
use mathlib.Core.Bool.{Bool, true, false, false≢true}
use mathlib.Core.List.{List, []}
use lib.ListN.{length}
use lib.Dec.{ltb}
use Rattle.spec.specs.Names.{output_short, too_large}
use Rattle.std.specs.Prelude.{if◌then◌else◌}
use Rattle.spec.specs.Base.{limit}
use Rattle.spec.specs.Schema.{Schema}
use Rattle.spec.specs.Record.{Record}
use Rattle.spec.specs.Writing.{written, Verdict, Fine, Faulty, list_check, Writing, Wrote, Failed, judged, sized, writing}
use Rattle.spec.specs.declared.Entry.{Entry}
use Rattle.onward.specs.Onward.{Fewer, end, keep, leave_out, Older, Given, GoesOnward}
use Rattle.onward.specs.Generations.{TwoGenerations}
use Rattle.onward.proofs.OnwardLaws.{after_same, demand_three}

fewer_trans : {es fs gs : List Entry} → Fewer es fs → Fewer fs gs → Fewer es gs
fewer_trans f (leave_out g) = leave_out (fewer_trans f g)
fewer_trans (keep f) (keep g) = keep (fewer_trans f g)
fewer_trans (leave_out f) (keep g) = leave_out (fewer_trans f g)
fewer_trans end end = end

pub older_trans : {oldest middle newest : Schema} → Older oldest middle → Older middle newest → Older oldest newest
older_trans a b = record { fewer_entries = fewer_trans a.fewer_entries b.fewer_entries }

-- ---- what is written was a valid list

wrote_it : Writing → Bool
wrote_it (Wrote s) = true
wrote_it (Failed k n i) = false

bytes_given : List ℕ → Writing → List ℕ
bytes_given other (Wrote s) = s
bytes_given other (Failed k n i) = other

judged_fine : (v : Verdict) (w : Writing) (s : List ℕ) → judged v w ≡ Wrote s → (v ≡ Fine) × (w ≡ Wrote s)
unfolding judged wrote_it
judged_fine Fine w s e = (refl, e)
judged_fine (Faulty k i) w s e = absurd (false≢true (ap wrote_it e))

sized_is : (a b : Bool) (x s : List ℕ) → (if a then Failed too_large 0 0 else if b then Failed output_short (length x) 0 else Wrote x) ≡ Wrote s → x ≡ s
unfolding wrote_it bytes_given
sized_is true b x s e = absurd (false≢true (ap wrote_it e))
sized_is false true x s e = absurd (false≢true (ap wrote_it e))
sized_is false false x s e = ap (bytes_given []) e

wrote : (sch : Schema) (space : ℕ) (payload s : List ℕ) (rs : List Record) → writing sch space payload rs ≡ Wrote s → (list_check sch payload rs ≡ Fine) × (written payload rs ≡ s)
unfolding writing sized
wrote sch space payload s rs e =
    let p = judged_fine (list_check sch payload rs) (sized space (written payload rs)) s e in
    (p.0, sized_is (ltb limit (length (written payload rs))) (ltb space (length (written payload rs))) (written payload rs) s p.1)

-- ---- the law

pub two_generations : TwoGenerations
two_generations mode oldest middle newest payload rs room space g older valid =
    let s : List ℕ = written payload rs in
    let once : GoesOnward mode middle newest payload rs room space s = demand_three mode middle newest payload rs room space g in
    let w = wrote middle space s s once.list once.again in
    let next : Given oldest middle s once.list room space = record {
      older = older;
      old_valid = valid;
      new_valid = g.old_valid;
      list_valid = w.0;
      small = subst (λ (x : List ℕ). length x ≤ limit) (sym w.1) g.small;
      room_lent = omega (arith, once.no_more, g.room_lent);
      space_lent = subst (λ (x : List ℕ). length x ≤ space) (sym w.1) g.space_lent;
    } in
    let twice : GoesOnward mode oldest middle s once.list room space s =
    subst (GoesOnward mode oldest middle s once.list room space) w.1 (demand_three mode oldest middle s once.list room space next) in
    let straight : GoesOnward mode oldest newest payload rs room space s = demand_three mode oldest newest payload rs room space (record {
      older = older_trans older g.older;
      old_valid = valid;
      new_valid = g.new_valid;
      list_valid = g.list_valid;
      small = g.small;
      room_lent = g.room_lent;
      space_lent = g.space_lent;
    }) in
    record { once = once; twice = twice; straight = straight; same_list = after_same twice.list straight.list (sym twice.reads ∙ straight.reads) }
