-- The content that was found at a position, as the readers answer it. Assumes nothing: this is a definition. Only inner functions and loops cite it.
use Rattle.std.specs.Prelude.{ℕ, ◌+◌, Result, Ok, Err}
use Rattle.spec.specs.Base.{Read, Took, No}
use Rattle.spec.specs.Told.{refusal_of}
use Rattle.spec.specs.declared.refusals.Refusal.{Refusal}
use Rattle.skip.specs.declared.content.Span.{Span}

-- the answer of a content with these bounds
abbrev pub content_at : (start stop : ℕ) → Result Span Refusal
content_at a z = Ok (record { start = a; end = z })

-- what `content` reads from the position `at` on
unfoldable pub span_at : ℕ → Read → Result Span Refusal
span_at at (Took a z) = content_at (at + a) (at + z)
span_at at (No k) = Err (refusal_of k)
