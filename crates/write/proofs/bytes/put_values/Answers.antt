-- `write::bytes::put_values` meets its contract: the values from the place b on are stored, and the one before it goes in front of them.
-- Assumes nothing.
use Prim.Native.Nat.{ℕ, ◌+◌, ◌-◌, ◌*◌, ◌/◌, ◌≤◌, ◌<◌}
use mathlib.Core.Path.{◌≡◌, refl, sym, ap, ◌∙◌}
use mathlib.Core.Bool.{true, false, false≢true}
use mathlib.Core.List.{List, ◌++◌}
use native.Mathlib.Omega.{arith}
use lib.ListN.{length, get_or, length-append}
use Rattle.spec.specs.Names.{record_kinds, value_column}
use Rattle.spec.specs.Kind.{Shape, one, other, shape, wire, is_scalar}
use Rattle.spec.specs.Record.{Record, stride}
use Rattle.spec.specs.Writing.{body}
use Rattle.spec.proofs.RunLaws.{kind_small}
use Rattle.write.specs.Backward.{Stored, Room, depth_at, kind_at, at, plain, Values, kind_back, value_back}
use Rattle.write.proofs.StoreLaws.{stored_then, stored_as, stored_none}
use Rattle.write.proofs.SpanLaws.{bytes_none, bytes_at, bytes_from}
use Rattle.write.proofs.CheckedLaws.{fit_at}
use Rattle.list.proofs.FitLaws.{type_of}
use Rattle.write.proofs.bytes.put_values.Goals as goal
use Rattle.write.proofs.bytes.put_values.Invariants.{Back, rest}

body_plain : (x : Shape) (payload : List ℕ) (r : Record) (inner : List ℕ) → is_scalar x ≡ true → body x payload r inner ≡ plain x r.value
unfolding body plain is_scalar
body_plain (one c) payload r inner h = refl
body_plain (other x) payload r inner h = absurd (false≢true h)

module _ {table list payload out : List ℕ} {first upto pos : ℕ} (v : Values table list payload out first upto pos) where
  abbrev kind : ℕ
  kind = get_or list (upto - kind_back) 0

  rest_cons : (j : ℕ) → first / stride ≤ j → j < upto / stride → plain (shape kind) (get_or list (stride * j + value_column) 0) ++ rest list payload upto (j + 1) ≡ rest list payload upto j
  rest_cons j h l =
      let k : kind_at list j ≡ kind = v.kinds j h l in
      let next : j + 1 < upto / stride → depth_at list (j + 1) ≤ depth_at list j = λ b. omega (arith, v.depths j h l, v.depths (j + 1) (omega arith) b) in
      sym (bytes_at list j (j + 1) (upto / stride) (omega arith) (omega arith) (omega (arith, v.ends.aligned, v.ends.inside)) next false payload
      (λ i g b. absurd (omega arith))
      ∙ ap (λ (x : List ℕ). x ++ rest list payload upto (j + 1))
      (body_plain (shape (kind_at list j)) payload (at list j) _ (ap (λ (n : ℕ). is_scalar (shape n)) k ∙ v.scalar)
      ∙ ap (λ (n : ℕ). plain (shape n) (get_or list (stride * j + value_column) 0)) k))

  rest_few : (j : ℕ) → first / stride ≤ j → j < upto / stride → length (rest list payload upto j) ≤ pos
  rest_few j h l =
      omega (
        arith,
        v.room.few,
        bytes_from list false payload (depth_at list (first / stride)) (first / stride) j (upto / stride) h (omega arith)
            (omega (arith, v.ends.aligned, v.ends.inside)) (λ i g b. omega (arith, v.depths i g (omega arith))) (λ b. omega (arith, v.depths j h l)),
      )

  start : Back list payload out first upto pos upto pos out
  start = record {
    aligned = v.ends.aligned;
    low = omega (arith, v.some);
    high = omega arith;
    stored = stored_as (sym (bytes_none list false payload (upto / stride) (upto / stride) (omega arith))) (stored_none pos out);
  }

  kind_few : kind < record_kinds
  kind_few =
      let j : ℕ = upto / stride - 1 in
      let k : kind_at list j ≡ kind = v.kinds j (omega (arith, v.aligned, v.ends.aligned, v.some)) (omega (arith, v.aligned, v.ends.aligned, v.some)) in
      omega (arith, kind_small (fit_at list v.ends.passed j (omega (arith, v.aligned, v.ends.aligned, v.some, v.ends.inside))))

  type : get_or table kind 0 ≡ wire kind
  type = type_of table kind v.types kind_few

  module _ {b p : ℕ} {now : List ℕ} (h : Back list payload out first upto pos b p now) (more : first < b) where
    abbrev j : ℕ
    j = (b - stride) / stride

    near : (first / stride ≤ j) × (j < upto / stride) × (b / stride ≡ j + 1) × (b - stride ≡ stride * j)
    near =
        (omega (arith, v.aligned, h.aligned), omega (arith, v.aligned, h.aligned, h.high, v.ends.aligned), omega (arith, v.aligned, h.aligned), omega (arith, v.aligned, h.aligned))

    value : get_or list (b - value_back) 0 ≡ get_or list (stride * j + value_column) 0
    value = let there : b - value_back ≡ stride * j + value_column = omega (arith, near.2, near.3, v.aligned, h.aligned) in ap (λ (n : ℕ). get_or list n 0) there

    whole : plain (shape kind) (get_or list (b - value_back) 0) ++ rest list payload upto (b / stride) ≡ rest list payload upto j
    whole =
        ap (λ (n : ℕ). plain (shape kind) n ++ rest list payload upto (b / stride)) value
        ∙ ap (λ (n : ℕ). plain (shape kind) (get_or list (stride * j + value_column) 0) ++ rest list payload upto n) near.2
        ∙ rest_cons j near.0 near.1

    room : Room (plain (shape kind) (get_or list (b - value_back) 0)) p now
    room = record {
      few = omega (arith, rest_few j near.0 near.1, ap length whole, length-append (plain (shape kind) (get_or list (b - value_back) 0)) (rest list payload upto (b / stride)), h.stored.starts);
      inside = omega (arith, h.stored.starts, v.room.inside, h.stored.long);
    }

    again : {q : ℕ} {next : List ℕ} → Stored (plain (shape kind) (get_or list (b - value_back) 0)) p now q next → Back list payload out first upto pos (b - stride) q next
    again s = record {
      aligned = near.3;
      low = omega (arith, near.0, near.3, v.aligned);
      high = omega (arith, h.high);
      stored = stored_as whole (stored_then h.stored s);
    }

pub overflow_sub-kind : goal.overflow_sub-kind
overflow_sub-kind c =
    let v = c.requires in
    omega (arith, v.aligned, v.ends.aligned, v.some)

pub bounds-list-upto : goal.bounds-list-upto
bounds-list-upto c =
    let v = c.requires in
    omega (arith, v.aligned, v.ends.aligned, v.some, v.ends.inside)

pub bounds-table-kind : goal.bounds-table-kind
bounds-table-kind c = kind_few c.requires

pub loop-b-init : goal.loop-b-init
loop-b-init c = start c.requires

-- in the loop
pub overflow_sub-b : goal.overflow_sub-b
overflow_sub-b c = omega (arith, near c.requires c.loop-b.invariant c.loop-b-test.true)

pub bounds-list-b : goal.bounds-list-b
bounds-list-b c =
    let v = c.requires in
    omega (arith, near v c.loop-b.invariant c.loop-b-test.true, v.ends.inside, c.loop-b.invariant.high)

pub put_plain-p-requires : goal.put_plain-p-requires
put_plain-p-requires c =
    let v = c.requires in
    (type v, v.scalar, room v c.loop-b.invariant c.loop-b-test.true)

pub overflow_sub-b-in-loop-b : goal.overflow_sub-b-in-loop-b
overflow_sub-b-in-loop-b c = omega (arith, near c.requires c.loop-b.invariant c.loop-b-test.true)

pub loop-b-smaller : goal.loop-b-smaller
loop-b-smaller c = omega (arith, near c.requires c.loop-b.invariant c.loop-b-test.true)

pub loop-b-preserved : goal.loop-b-preserved
loop-b-preserved c = again c.requires c.loop-b.invariant c.loop-b-test.true c.put_plain-p.ensures

pub returns : goal.returns
returns c =
    let a = c.args in
    let done : c.loop-b.b ≡ a.first = omega (arith, c.loop-b.invariant.low) in
    stored_as (ap (λ (n : ℕ). rest a.list.now a.payload.now a.upto (n / stride)) done) c.loop-b.invariant.stored

pub shape_of-out : goal.shape_of-out
shape_of-out c = c.loop-b.invariant.stored.long
