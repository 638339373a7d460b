-- `write::bytes::put_list` meets its contract: the list is the run at depth 0 that ends where it ends, and begins at its front. Assumes nothing.
use Prim.Native.Nat.{ℕ, ◌-◌, ◌/◌}
use mathlib.Core.Path.{◌≡◌, ap, ◌∙◌}
use mathlib.Core.Bool.{true}
use mathlib.Core.List.{List, ◌++◌}
use native.Mathlib.Omega.{arith}
use lib.ListN.{length, drop}
use lib.Seq.{take_all}
use Rattle.spec.specs.Base.{filled}
use Rattle.spec.specs.Record.{records_of, stride}
use Rattle.spec.specs.Writing.{bytes_of, written}
use Rattle.spec.proofs.VarintLaws.{lower_or_not}
use Rattle.spec.proofs.WritingLaws.{bytes_in}
use Rattle.spec.proofs.RunLaws.{Passed, records_count}
use Rattle.write.specs.Backward.{Stored, span, start, run_bytes}
use Rattle.write.proofs.StoreLaws.{stored_as}
use Rattle.write.proofs.SpanLaws.{start_low}
use Rattle.write.proofs.CheckedLaws.{whole}
use Rattle.write.proofs.bytes.put_list.Goals as goal

module _ (list payload : List ℕ) (passed : Passed (records_of list)) where
  from_front : start list 0 (length list / stride) ≡ 0
  from_front =
      lower_or_not 0 (start list 0 (length list / stride)) (λ l. absurd (omega (arith, start_low list 0 (length list / stride) l))) (λ l. omega arith)

  all_records : span list 0 (length list / stride) ≡ records_of list
  unfolding span
  all_records = take_all (length list / stride - 0) (records_of list) (omega (arith, whole list passed, (records_count (length list) list (omega arith)).1))

  list_bytes : run_bytes true list payload 0 (length list) ≡ written payload (records_of list)
  unfolding written
  list_bytes = ap (λ (i : ℕ). bytes_in true payload (span list i (length list / stride))) from_front ∙ ap (λ x. bytes_in true payload x) all_records

-- from the front, what the output holds
stored_front : {new out now : List ℕ} {p q : ℕ} → Stored new p out q now → p ≡ length new → now ≡ filled new out
stored_front {new} {out} {now} {q = q} s e =
    let front : 0 ≡ q = omega (arith, s.starts) in
    ap (λ (n : ℕ). drop n now) front ∙ s.behind ∙ ap (λ (n : ℕ). new ++ drop n out) e

pub put_run-requires : goal.put_run-requires
unfolding span start bytes_of
put_run-requires c =
    let a = c.args in
    let passed = c.requires.1.passed in
    record {
      types = c.requires.0;
      given = c.requires.1;
      ends = record { passed = passed; aligned = omega (arith, whole a.list.now passed); inside = omega arith };
      room = record { few = omega (arith, ap length (list_bytes a.list.now a.payload.now passed), c.requires.2); inside = c.requires.3 };
    }

pub returns : goal.returns
returns c = stored_front (stored_as (list_bytes c.args.list.now c.args.payload.now c.requires.1.passed) c.put_run.ensures.stored) c.requires.2
