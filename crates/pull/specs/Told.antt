-- What the answers of the steps say, in the definitions' terms. Assumes nothing: these are definitions. Public promises cite it.
use Rattle.std.specs.Prelude.{ℕ, ◌≤◌, ◌≡◌, List, length, Result, Ok, Err}
use Rattle.spec.specs.Base.{part}
use Rattle.spec.specs.Kind as kind
use Rattle.spec.specs.Pull as spec
use Rattle.spec.specs.Told as told
use Rattle.spec.specs.declared.refusals.Refusal.{Refusal}
use Rattle.wire.specs.declared.found.Found.{Found}
use Rattle.skip.specs.declared.content.Span.{Span}
use Rattle.pull.specs.declared.step.Ask.{Ask}
use Rattle.pull.specs.declared.step.Ask.TheVariants as ask
use Rattle.pull.specs.declared.step.Said.{Said}
use Rattle.pull.specs.declared.step.Said.TheVariants as said
use Rattle.pull.specs.declared.step.Refused.{Refused}
use Rattle.pull.specs.declared.step.Moved.{Moved}
use Rattle.pull.specs.declared.step.Gate.{Gate}

-- what is asked; a float is its 32 bits, a double its 64, a signed number its pattern
abbrev pub asked : Ask → spec.Ask
asked ask.RawTag = spec.raw_tag
asked ask.Double = spec.value kind.fixed64
asked ask.Float = spec.value kind.fixed32
asked ask.Int64 = spec.value kind.uint64
asked ask.Uint64 = spec.value kind.uint64
asked ask.Int32 = spec.value kind.int32
asked ask.Fixed64 = spec.value kind.fixed64
asked ask.Fixed32 = spec.value kind.fixed32
asked ask.Bool = spec.value kind.bool
asked ask.String = spec.string
asked ask.Bytes = spec.bytes
asked ask.Uint32 = spec.value kind.uint32
asked ask.Enum = spec.value kind.int32
asked ask.Sfixed32 = spec.value kind.sfixed32
asked ask.Sfixed64 = spec.value kind.fixed64
asked ask.Sint32 = spec.value kind.sint32
asked ask.Sint64 = spec.value kind.sint64
asked (ask.Skip tag) = spec.skip tag

-- what is said
abbrev pub said_told : Result Said Refused → spec.Said
said_told (Ok (said.Number v)) = spec.Number v
said_told (Ok (said.Content a z)) = spec.Content a z
said_told (Ok said.End) = spec.End
said_told (Err r) = spec.Refused (told.number_of r.refusal) r.place

abbrev pub as_moved : Moved → spec.Moved
as_moved m = spec.says (said_told m.said) m.at

-- ---- the parts of an answer, from what was found at a position

abbrev pub refused_at : Refusal → ℕ → Moved
refused_at k at = record { said = Err (record { refusal = k; place = at }); at = at }

abbrev pub number_of : ℕ → Result Found Refusal → Moved
number_of at (Ok f) = record { said = Ok (said.Number f.value); at = f.next }
number_of at (Err k) = refused_at k at

abbrev pub content_of : ℕ → Result Span Refusal → Moved
content_of at (Ok f) = record { said = Ok (said.Content f.start f.end); at = f.end }
content_of at (Err k) = refused_at k at

-- ---- entering

abbrev pub shut_at : Refusal → (at level : ℕ) → Gate
shut_at k at level = record { said = Err (record { refusal = k; place = at }); start = 0; end = 0; level = level; at = at }

-- What entering finds is what the definition says; its bounds lie in the bytes, and are those of the inner reader's.
pub record Gated (s : List ℕ) (at level : ℕ) (g : Gate) : Type 0 where
  pub moves : spec.says (said_told g.said) g.at ≡ spec.enter_at s at level
  pub inner : spec.reader (part g.start g.end s) 0 g.level ≡ spec.inner_of (spec.reader s at level) (spec.enter_at s at level).said
  pub ordered : g.start ≤ g.end
  pub inside : g.end ≤ length s
