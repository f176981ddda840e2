-- What is stored of a life begins within it, and tells what the whole life does.
use Rattle.std.proofs.Common.{arith, length, subst, sym, ◌+◌, ◌≡◌, ◌≤◌}
use Rattle.channel_locks.specs.declared.parts_name.PartsName.{Ghosts as PartsGhosts}
use Rattle.line_memory.proofs.Moving.{told_the_same}
use Rattle.line_memory.specs.History.{Recorded, TellsSameFrom, cut_at}
use Rattle.nv_machine.proofs.Guarded.{cut_below}
use Rattle.nv_machine.specs.State.{Machine, start_of_life}
use Rattle.board_hosts.specs.Kept.{whole_record}
use Rattle.board_desk.specs.Desk.{DeskStands, DeskView}

module _ {B : Type 0} (P : PartsGhosts B) (desk : DeskView) (m : Machine) (s : DeskStands P desk m) where
  least : start_of_life m.life ≤ m.cut
  least = (cut_below m s.guarded).opened

  most : m.cut ≤ start_of_life m.life + length m.life.writes
  most =
      let front = desk.split.front in
      let stored = front.stored in
      let settled = front.settled in
      let matches = s.stands.matches in
      let cut = matches.cut in
      let accepted = matches.accepted in
      omega (arith, stored, settled, cut, accepted)

  pub record_tells : TellsSameFrom desk.history.start (whole_record m desk.history.room) desk.history
  record_tells =
      let life : Recorded = whole_record m desk.history.room in
      let told : TellsSameFrom m.cut life (cut_at m.cut life) = told_the_same m.cut life least most in
      let stored : desk.history ≡ cut_at m.cut life = s.stored in
      subst (λ (h : Recorded). TellsSameFrom h.start life h) (sym stored) told
