use Rattle.std.proofs.Common.{◌≡◌, ℕ, Option, None, ap, ◌∙◌, subst}
use Rattle.request_notes.specs.Notes.{IsHit, IsOldestSeq}
use Rattle.frfcfs.proofs.Common.{BankAddress, Command, Rd, Read, Wr, Write, column_of, least_clock}
use Rattle.frfcfs.proofs.SoonBanks.{no_reads, no_writes, place_in, reads_seen, writes_seen}
use Rattle.frfcfs.proofs.noted_look.Soon.look_at_kind.Goals as goal
use Rattle.frfcfs.proofs.noted_look.Soon.look_at_kind.Goals.{in-Read, in-Write}

pub returns-in_default-clause-read : goal.returns-in_default-clause-read
returns-in_default-clause-read c list pending keys note last limit n left rest kind s noted at taken is before =
    let none : c.args.seq ≡ None = c.in_default.is in
    no_reads c.args.banks.now.checked list pending keys c.args.now last limit n c.args.end left note c.args.self.now noted (subst (λ (o : Option ℕ). IsOldestSeq (IsHit keys n note.row Read) o) (is ∙ none) noted.told.read) before

pub returns-in_default-clause-write : goal.returns-in_default-clause-write
returns-in_default-clause-write c list pending keys note last limit n left rest kind s noted at taken is before =
    let none : c.args.seq ≡ None = c.in_default.is in
    no_writes c.args.banks.now.checked list pending keys c.args.now last limit n c.args.end left rest note c.args.self.now noted (subst (λ (o : Option ℕ). IsOldestSeq (IsHit keys n note.row Write) o) (is ∙ none) noted.told.write) taken before

pub returns-clause-read : goal.returns-clause-read
returns-clause-read c list pending keys note last limit n left rest kind s noted at taken is before =
    let b = c.args.banks.now.checked in
    let cmd : c.match-kind.least_clock ≡ Rd c.args.at 0 = elim c.match-kind.branch [ in-Read w ↦ w.least_clock-is | in-Write w ↦ absurd (cc (w.in-Write.is, kind)) ] in
    let clock : c.least_clock-clock.result ≡ least_clock b.timing list (column_of Read (place_in n)) =
    c.least_clock-clock.ensures list s ∙ (ap (λ (x : Command). least_clock b.timing list x) cmd ∙ ap (λ (a : BankAddress). least_clock b.timing list (Rd a 0)) at) in
    reads_seen b list pending keys c.args.now last limit n c.args.end c.least_clock-clock.result c.max.result left note c.in-Some.seq c.args.self.now _ s.lawful noted
    (subst (λ (o : Option ℕ). IsOldestSeq (IsHit keys n note.row Read) o) (is ∙ c.in-Some.is) noted.told.read) clock c.max.ensures c.offer.ensures before

pub returns-clause-write : goal.returns-clause-write
returns-clause-write c list pending keys note last limit n left rest kind s noted at taken is before =
    let b = c.args.banks.now.checked in
    let cmd : c.match-kind.least_clock ≡ Wr c.args.at 0 = elim c.match-kind.branch [ in-Read w ↦ absurd (cc (w.in-Read.is, kind)) | in-Write w ↦ w.least_clock-is ] in
    let clock : c.least_clock-clock.result ≡ least_clock b.timing list (column_of Write (place_in n)) =
    c.least_clock-clock.ensures list s ∙ (ap (λ (x : Command). least_clock b.timing list x) cmd ∙ ap (λ (a : BankAddress). least_clock b.timing list (Wr a 0)) at) in
    writes_seen b list pending keys c.args.now last limit n c.args.end c.least_clock-clock.result c.max.result left rest note c.in-Some.seq c.args.self.now _ s.lawful noted
    (subst (λ (o : Option ℕ). IsOldestSeq (IsHit keys n note.row Write) o) (is ∙ c.in-Some.is) noted.told.write) clock c.max.ensures c.offer.ensures taken before
