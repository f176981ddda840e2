use Rattle.std.proofs.Common.{◌≡◌, ℕ, List, Option, Some, [], IfSome, get_or, refl, sym, ap, subst, arith}
use Rattle.std.proofs.lemmas.Option.{get_or_from_slice_get}
use Rattle.frfcfs.specs.Next.{IsServable}
use Rattle.chan_core.proofs.Common.{ChannelState, IsEligible, Pending, contents_of}
use Rattle.chan_core.proofs.Answering.{opened, read-answers, read-at, read-holds}
use Rattle.chan_core.proofs.Serving.{in-queue, line-within, write-below, write-first, write-holds, write-memory, write-tickets, write-unheld}
use Rattle.chan_core.proofs.channel_memory.ChannelMemory.issue.Goals as goal

-- the request at the index, where it is looked up
chosen : {given : List Pending} {seen now : ChannelState} {index : Option ℕ} {i : ℕ} → given ≡ seen.requests → seen ≡ now → index ≡ Some i → IfSome index (IsServable now.requests) → (d : Pending) → IsEligible seen.requests i (get_or given i d)
chosen {seen = seen} {now = now} {i = i} value view is may d =
    let at : IsServable now.requests i = subst (λ (o : Option ℕ). IfSome o (IsServable now.requests)) is may in
    let here : IsEligible seen.requests i at.0 = subst (λ (s : ChannelState). IsEligible s.requests i at.0) (sym view) at.1 in
    rw (value, get_or_from_slice_get seen.requests i at.0 d here.here) here

pub take_write-bytes-requires : goal.take_write-bytes-requires
take_write-bytes-requires c =
    let eligible = chosen c.requests.ensures.value c.self.view_is c.in-Some.is c.requires _ in
    let q = in-queue (contents_of c.self.inside) c.self.invariant.are c.in-Some.index _ eligible.here c.in-Write.is in (q.index, q.write, q.at, q.number)

pub index_mut-requires : goal.index_mut-requires
index_mut-requires c =
    let eligible = chosen c.requests.ensures.value c.self.view_is c.in-Some.is c.requires _ in
    rw c.self.inside.array.ok.0 (line-within (contents_of c.self.inside) c.self.invariant.are c.in-Some.index _ eligible.here)

pub invariant_of-self-in-Write : goal.invariant_of-self-in-Write
invariant_of-self-in-Write c =
    let eligible = chosen c.requests.ensures.value c.self.view_is c.in-Some.is c.requires _ in
    let e = c.take_write-bytes.ensures in
    record {
      are = rw c.note.ensures.noted
          (write-holds (contents_of c.self.inside) c.take_write-bytes.new.queue c.take.new.self c.args.command c.in-Some.index _ c.take_write-bytes.result c.self.invariant.are eligible.here c.in-Write.is e.size c.take.ensures.left e.queue e.depth e.takes);
      room_for_reads = c.self.invariant.room_for_reads;
    }

pub returns-in-Write : goal.returns-in-Write
returns-in-Write c =
    let eligible = chosen c.requests.ensures.value c.self.view_is c.in-Some.is c.requires _ in
    let order = rw c.requests.ensures.value at c.requests.ensures.order in
    let s = contents_of c.self.inside in
    let are = c.self.invariant.are in
    let queue = c.take_write-bytes.new.queue in
    let bytes = c.take_write-bytes.result in
    let takes = c.take_write-bytes.ensures.takes in
    let kind = c.in-Write.is in
    rw (← c.self.view_is, c.in-Some.is, c.note.ensures.noted) (record {
      same = rw c.take_write-bytes.ensures.depth refl;
      serves = record {
        p = _;
        eligible = eligible;
        serves = record {
          kind = kind;
          named = refl;
          bytes = bytes;
          array = refl;
          writes = takes;
          tickets = write-tickets s c.in-Some.index _ bytes are order eligible kind;
          first = write-first s c.in-Some.index _ are order eligible kind;
          unheld = λ n hold. write-unheld s n c.in-Some.index _ are eligible kind hold;
          below = λ n less. write-below s queue n c.in-Some.index _ bytes are order eligible kind less takes;
        };
        requests = ap (λ w. w.requests) c.take.ensures.left;
      };
      memory = write-memory s queue c.in-Some.index _ bytes are order eligible kind takes;
      below = λ n hold. write-below s queue n c.in-Some.index _ bytes are order eligible kind (write-unheld s n c.in-Some.index _ are eligible kind hold) takes;
    })

pub index-bytes-requires : goal.index-bytes-requires
index-bytes-requires c =
    let eligible = chosen c.requests.ensures.value c.self.view_is c.in-Some.is c.requires _ in
    rw c.self.inside.array.ok.0 (line-within (contents_of c.self.inside) c.self.invariant.are c.in-Some.index _ eligible.here)

pub answer-serial-requires-clause-rise : goal.answer-serial-requires-clause-rise
answer-serial-requires-clause-rise c = c.self.invariant.are.reads.seqs

pub answer-serial-requires-clause-waits : goal.answer-serial-requires-clause-waits
answer-serial-requires-clause-waits c =
    let eligible = chosen c.requests.ensures.value c.self.view_is c.in-Some.is c.requires _ in
    let o = opened (contents_of c.self.inside) c.self.invariant.are c.in-Some.index _ eligible.here c.in-Read.is in (o.index, o.read, o.at, o.seq)

pub invariant_of-self-in-Read : goal.invariant_of-self-in-Read
invariant_of-self-in-Read c =
    let eligible = chosen c.requests.ensures.value c.self.view_is c.in-Some.is c.requires _ in
    record {
      are = rw c.note.ensures.noted
          (read-holds (contents_of c.self.inside) c.take.new.self c.answer-serial.new.reads.items c.args.command c.in-Some.index _ _ c.answer-serial.result c.self.invariant.are eligible.here c.in-Read.is c.take.ensures.left c.answer-serial.ensures.answers);
      room_for_reads = omega (arith, c.self.invariant.room_for_reads, c.answer-serial.ensures.most);
    }

pub returns-in-Read : goal.returns-in-Read
returns-in-Read c =
    let eligible = chosen c.requests.ensures.value c.self.view_is c.in-Some.is c.requires _ in
    let s = contents_of c.self.inside in
    let are = c.self.invariant.are in
    let whole = read-at s.array _ c.index-bytes.result.now [] (line-within s are c.in-Some.index _ eligible.here) c.index-bytes.ensures in
    let answers = rw whole at c.answer-serial.ensures.answers in
    rw (← c.self.view_is, c.in-Some.is, c.note.ensures.noted) (record {
      same = refl;
      serves = record {
        p = _;
        eligible = eligible;
        serves = read-answers s c.take.new.self c.answer-serial.new.reads.items c.args.command c.in-Some.index _ c.answer-serial.result are eligible.here c.in-Read.is answers;
        requests = ap (λ w. w.requests) c.take.ensures.left;
      };
      memory = refl;
      below = λ n hold. refl;
    })
