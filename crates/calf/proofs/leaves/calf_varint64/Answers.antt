-- The varint's answer, in numbers.
use Rattle.std.proofs.Common.{◌∙◌}
use Rattle.calf.proofs.ToldLaws.{refused_told, pair_told}
use Rattle.calf.proofs.leaves.calf_varint64.Goals as goal

pub returns : goal.returns
returns c =
    let d = c.decode_varint64 in
    let a = c.args in
    (c.found.ensures.0 ∙ refused_told a.at d.result d.ensures, c.found.ensures.1 ∙ pair_told 9 1 a.s.now a.at d.result d.ensures)
