-- What the parts of the writing answer: what ranges are judged to be, with a size that is cut off just above the limit.
-- Assumes nothing: these are definitions. Only inner functions and loops cite it.
use Rattle.std.specs.Prelude.{ℕ, ◌≡◌, List, length, Result, Ok, Err}
use Rattle.std.proofs.Math.Option.{none, some}
use Rattle.spec.specs.declared.answers.Unwritten.{Unwritten}
use Rattle.spec.specs.declared.refusals.Refusal.TheVariants.{InvalidList}
use Rattle.sizes.specs.SizeParts.{capped}
use Rattle.segment.specs.Segment.{Range, segment, contents_of, bad_range}

-- the refusal of the range at this index
abbrev pub outside : ℕ → Unwritten
outside i = record { refusal = InvalidList; size = 0; index = i }

-- the first range that does not lie in the payload; or, where all lie in it, the size of their segment
pub data Judges (payload : List ℕ) (rs : List Range) : Result ℕ Unwritten → Type 0 where
  lies_outside : {i : ℕ} → bad_range 0 payload rs ≡ some i → Judges payload rs (Err (outside i))
  all_inside : {n : ℕ} → bad_range 0 payload rs ≡ none → n ≡ capped (length (segment (contents_of payload rs))) → Judges payload rs (Ok n)
