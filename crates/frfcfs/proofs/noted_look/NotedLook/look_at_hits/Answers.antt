use Rattle.std.proofs.Common.{ℕ, Option, inl, inr, refl, subst}
use Rattle.request_notes.specs.Notes.{IsHit, IsOldestSeq}
use Rattle.frfcfs.proofs.Common.{Read, Write}
use Rattle.frfcfs.proofs.KeyRequests.{some_seq}
use Rattle.frfcfs.proofs.SoonBanks.{rows_hit}
use Rattle.frfcfs.proofs.noted_look.NotedLook.look_at_hits.Goals as goal

pub returns-clause-found : goal.returns-clause-found
returns-clause-found c keys n limit told early before = (
  c.look_at_kind-2.ensures.found keys n limit c.args.note.now.row told.write early (c.look_at_kind.ensures.found keys n limit c.args.note.now.row told.read early before.0),
  before.1,
)

pub returns-clause-soonest : goal.returns-clause-soonest
returns-clause-soonest c list pending keys last limit n left rest s noted at taken before =
    let b = c.args.banks.now.checked in
    let note = c.args.note.now in
    let row = c.args.self.now.row in record {
      column = c.look_at_kind-2.ensures.write list pending keys note last limit n left rest refl s noted at taken refl (c.look_at_kind.ensures.read list pending keys note last limit n left rest refl s noted at taken refl before.column);
      row = elim c.requires.hit [
        | inl some ↦
            let (seq, is) = some_seq note.read some in
            rows_hit b list pending keys c.args.now last limit n c.args.end seq left rest note Read row noted (subst (λ (o : Option ℕ). IsOldestSeq (IsHit keys n note.row Read) o) is noted.told.read) taken before.row
        | inr some ↦
            let (seq, is) = some_seq note.write some in
            rows_hit b list pending keys c.args.now last limit n c.args.end seq left rest note Write row noted (subst (λ (o : Option ℕ). IsOldestSeq (IsHit keys n note.row Write) o) is noted.told.write) taken before.row
      ];
    }
