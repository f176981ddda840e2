-- A box that may be there.
use Rattle.std.specs.Prelude.{Option, Some, None}
use mir.Syntax.{Ty}
use base.Fml.{Fml, ftrue}
use denote.RattleType.{RattleType}
use denote.RawPtr.{Ptr}
use Rattle.std.specs.Box.Ownership.{box_owns}

-- what is owned of the box of a value, if there is one: the value, and the right to free its block
abbrev pub box_owns_if : (Ty → Ptr → Fml) → (R : RattleType) → Ptr → Option R.Denot → Fml
box_owns_if holds R p None = ftrue
box_owns_if holds R p (Some x) = box_owns holds R p x
