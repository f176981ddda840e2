-- The words that most proofs of this crate cite, passed on from one place.
pub use Rattle.std.proofs.Common.{rules, arith, ◌≡◌, ◌≢◌, ◌==◌, ◌||◌, ◌+◌, ◌-◌, ◌*◌, ◌<◌, ◌≤◌, ◌⊎◌, inl, inr, ℕ, zero, suc, min, Bool, true, false, cond, eqb, nat_lt, if◌then◌else◌, refl, sym, ap, subst, ◌∙◌}
pub use Rattle.std.proofs.Common.{All, List, [], ◌∷◌, ◌++◌, count_by, drop, filter, get_or, insert, length, length-set, map, remove, slice_get, slice_index_or, slice_set, take, Option, Some, None, IfNone, IfSome}
pub use Rattle.std.specs.Prelude.{Err, Ok, OnOk}
pub use Rattle.std.specs.List.{AllZip, flat_map, list_any, range_with_len}
pub use Rattle.std.proofs.lemmas.Bool.{cases_eq, eq-eqb, eqb-true, ne_eqb}
pub use Rattle.std.proofs.lemmas.List.{length-append, same_lists}
pub use Rattle.std.proofs.lemmas.Option.{get_or_from_slice_get, same_Some, slice_get-get_or, slice_get_within}
pub use Rattle.line_memory.specs.declared.Write.{Write}
pub use Rattle.line_memory.specs.declared.parts.Numbered.{Numbered}
pub use Rattle.line_memory.specs.Memory.{after, after_write, line_of, memory_at}
pub use Rattle.line_memory.specs.Parts.{AreBefore, below, numbered, writes_of, written_on}
pub use Rattle.ddr4_timing.specs.declared.place.Place.{Place}
pub use Rattle.energy_budget.specs.declared.costs.Costs.{Costs}
pub use Rattle.channel_port.specs.declared.answers.Ticket.{Ticket}
pub use Rattle.channel_port.specs.declared.port.ChannelPort.{Ghosts}
pub use Rattle.channel_port.specs.declared.waiting.Waiting.{Waiting}
pub use Rattle.channel_port.specs.Carried.{KeepsCarried, NoneBelow, WaitFrom}
pub use Rattle.channel_port.specs.Shape.{IsShape}
pub use Rattle.channel_port.specs.declared.stage.Stage.{Stage}
pub use Rattle.channel_port.specs.declared.stage.Stage.TheVariants.{OnBackup, OnMains}
pub use Rattle.channel_port.specs.Waits.{AllBelow, Goes, Has, IsNeverGiven, IsNewTicket, IsPending, Joins, OpenRead, Remain, Waits, emptied, is_read_on, is_write_on, nothing, reads_on, waiting, writes_on}
pub use Rattle.channel_set.specs.declared.set.ChannelSet.{ChannelSet}
pub use Rattle.channel_set.specs.declared.terms.PortTerms.{PortTerms}
pub use Rattle.channel_set.specs.Carrying.{CarriesAll, CarriesOwn, KeepsAll, WaitAmong, WaitsFrom}
pub use Rattle.channel_set.specs.Ports.{ArePorts, array_of, places_of, shape_with, stored_by, stored_in, waits_in}
pub use Rattle.channel_set.specs.Set.{ChannelsView, NextCommand, shape_of, view_of}
