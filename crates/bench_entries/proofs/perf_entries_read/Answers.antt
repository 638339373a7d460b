-- `bench_entries::perf_entries_read` meets its contract: the entries that are lent are the first sixteen of the numbers. Assumes nothing.
use Prim.Native.Nat.{ℕ}
use mathlib.Core.Path.{◌≡◌, ap, ap₂, ◌∙◌}
use mathlib.Core.List.{List, [], ◌∷◌}
use lib.ListN.{length}
use Rattle.spec.specs.Schema.{Schema}
use Rattle.spec.specs.Reading.{Reading, number, place, listed, room_after, reading}
use Rattle.entries.proofs.NumbersLaws.{made_front}
use Rattle.bench_entries.specs.First.{most_made}
use Rattle.bench_entries.proofs.FirstLaws.{first_made}
use Rattle.bench_entries.proofs.perf_entries_read.Goals as goal

-- what is told of a reading under one schema is told of it under another that is the same
told : {made lent : Schema} (n : ℕ) (s room : List ℕ) {k count at : ℕ} {room' : List ℕ} → made ≡ lent
    → (k ≡ number (reading made n s)) × (at ≡ place (reading made n s)) × (count ≡ length (listed (reading made n s))) × (room' ≡ room_after (reading made n s) room)
    → (k ≡ number (reading lent n s)) × (count ∷ at ∷ [] ≡ length (listed (reading lent n s)) ∷ place (reading lent n s) ∷ []) × (room' ≡ room_after (reading lent n s) room)
told n s room e h =
    let is = ap (λ (x : Schema). reading x n s) e in
    (h.0 ∙ ap number is, ap₂ (λ (x y : ℕ). x ∷ y ∷ []) (h.2 ∙ ap (λ (q : Reading). length (listed q)) is) (h.1 ∙ ap place is), h.3 ∙ ap (λ (q : Reading). room_after q room) is)

pub returns-in-Ok : goal.returns-in-Ok
returns-in-Ok c = told _ _ _ (first_made c.args.types c.args.numbers.now (made_front c.args.numbers.now most_made c.made-count.result c.made-count.ensures.count c.made-count.ensures.front)) c.in-Ok.ensures

pub returns-in-Err : goal.returns-in-Err
returns-in-Err c =
    let h = c.in-Err.ensures in
    told _ _ _ (first_made c.args.types c.args.numbers.now (made_front c.args.numbers.now most_made c.made-count.result c.made-count.ensures.count c.made-count.ensures.front)) (c.number.ensures ∙ h.0, h.1, h.2, h.3)
