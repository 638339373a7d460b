-- `write::bytes::put_content` meets its contract: there is room, so the content is stored. Assumes nothing.
use Prim.Native.Nat.{ℕ, ◌+◌, ◌-◌, ◌≤◌}
use mathlib.Core.Path.{◌≡◌}
use mathlib.Core.List.{List}
use native.Mathlib.Omega.{arith}
use borrow.Author.Tests.{le-leb}
use lib.Dec.{leb}
use lib.ListN.{length}
use Rattle.std.specs.Prelude.{if◌then◌else◌}
use Rattle.spec.specs.Base.{part}
use Rattle.spec.proofs.MadeLaws.{part_length}
use Rattle.wire.specs.Answers.{stored}
use Rattle.write.specs.Backward.{Room, Stored}
use Rattle.write.proofs.StoreLaws.{in_place}
use Rattle.write.proofs.bytes.put_content.Goals as goal

pub overflow_sub-q-2 : goal.overflow_sub-q-2
overflow_sub-q-2 c = omega (arith, part_length c.args.start c.args.stop c.args.payload.now c.requires.0 c.requires.1, c.requires.2.few)

put : (a e p : ℕ) (s out : List ℕ) {x : List ℕ} → a ≤ e → e ≤ length s → Room (part a e s) p out
    → x ≡ (if leb (p - (e - a) + length (part a e s)) (length out) then stored (p - (e - a)) (part a e s) out else out) → Stored (part a e s) p out (p - (e - a)) x
put a e p s out h l room is =
    let long = part_length a e s h l in
    let ends : p - (e - a) + length (part a e s) ≡ p = omega (arith, room.few) in
    let fits = le-leb (p - (e - a) + length (part a e s)) (length out) (omega (arith, room.inside)) in
    in_place (part a e s) out (p - (e - a)) p ends room.inside (simp fits at is)

pub returns : goal.returns
returns c = put c.args.start c.args.stop c.args.p c.args.payload.now c.args.out.now c.requires.0 c.requires.1 c.requires.2 c.put_bytes.ensures.1
