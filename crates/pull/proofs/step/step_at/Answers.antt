-- `pull::step::step_at` meets its contract: each case of what is asked calls the step that does it. Assumes nothing.
use Rattle.std.proofs.Common.{inl, inr}
use Rattle.spec.specs.Pull.{step_at}
use Rattle.pull.proofs.step.step_at.Goals as goal

pub returns-in-RawTag : goal.returns-in-RawTag
unfolding step_at
returns-in-RawTag c = rw c.in-RawTag.is c.tag_at.ensures

pub returns-in-Int32 : goal.returns-in-Int32
unfolding step_at
returns-in-Int32 c = elim c.in-Int32.is [ inl e ↦ rw e c.int32_at.ensures | inr e ↦ rw e c.int32_at.ensures ]

pub returns-in-Uint32 : goal.returns-in-Uint32
unfolding step_at
returns-in-Uint32 c = rw c.in-Uint32.is c.uint32_at.ensures

pub returns-in-Int64 : goal.returns-in-Int64
unfolding step_at
returns-in-Int64 c = elim c.in-Int64.is [ inl e ↦ rw e c.uint64_at.ensures | inr e ↦ rw e c.uint64_at.ensures ]

pub returns-in-Bool : goal.returns-in-Bool
unfolding step_at
returns-in-Bool c = rw c.in-Bool.is c.bool_at.ensures

pub returns-in-Sint32 : goal.returns-in-Sint32
unfolding step_at
returns-in-Sint32 c = rw c.in-Sint32.is c.sint32_at.ensures

pub returns-in-Sint64 : goal.returns-in-Sint64
unfolding step_at
returns-in-Sint64 c = rw c.in-Sint64.is c.sint64_at.ensures

pub returns-in-Float : goal.returns-in-Float
unfolding step_at
returns-in-Float c = elim c.in-Float.is [ inl e ↦ rw e c.fixed32_at.ensures | inr e ↦ rw e c.fixed32_at.ensures ]

pub returns-in-Sfixed32 : goal.returns-in-Sfixed32
unfolding step_at
returns-in-Sfixed32 c = rw c.in-Sfixed32.is c.sfixed32_at.ensures

pub returns-in-Double : goal.returns-in-Double
unfolding step_at
returns-in-Double c = elim c.in-Double.is [
  | inl e ↦ rw e c.fixed64_at.ensures
  | inr d ↦ elim d [ inl e ↦ rw e c.fixed64_at.ensures | inr e ↦ rw e c.fixed64_at.ensures ]
]

pub returns-in-String : goal.returns-in-String
unfolding step_at
returns-in-String c = rw c.in-String.is c.string_at.ensures

pub returns-in-Bytes : goal.returns-in-Bytes
unfolding step_at
returns-in-Bytes c = rw c.in-Bytes.is c.bytes_at.ensures
