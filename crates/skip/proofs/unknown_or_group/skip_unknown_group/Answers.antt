-- `skip::unknown_or_group::skip_unknown_group` meets its contract. Assumes nothing.
use lib.ListN.{drop}
use Rattle.skip.proofs.SkipAnswers.{past_outer}
use Rattle.skip.proofs.unknown_or_group.skip_unknown_group.Goals as goal

pub returns : goal.returns
returns c = let a = c.args in past_outer _ _ (drop a.at a.s.now) _ c.skip_group.ensures
