use Rattle.std.proofs.Common.{rules, ◌≡◌, ◌∙◌, ◌+◌, ◌-◌, ◌%◌, ◌<◌, ℕ, List, ap, arith, get_or, length, sym, take}
use Rattle.std.proofs.lemmas.List.{drop_all, take_all}
use Rattle.journal_log.specs.Lines.{sizes_of}
use Rattle.journal_log.proofs.Spelling.{sizes-least, sizes-parts}
use Rattle.journal_lines.proofs.Calling.{fewer_lines, place-get}
use Rattle.journal_lines.proofs.Reading.{length-places}
use Rattle.journal_lines.proofs.index.Index.behind.Goals as goal

pub returns-then-cut-len-clause-is : goal.returns-then-cut-len-clause-is
returns-then-cut-len-clause-is c = λ log is some.
    let lines : ℕ = c.args.self.now.lines in
    let room : c.args.self.now.used < lines = c.args.self.now.room in
    let long : c.len.result ≡ length c.args.self.now.places.items = search rules in
    let counted : length c.args.self.now.places.items ≡ length log.records = ap length is.places ∙ length-places lines log.first log.records in
    let less : c.args.cut < length log.records = omega (arith, c.if-cut-len.true, long, counted) in
    let on : ℕ = sizes_of (take c.args.cut log.records) in
    let fewer : on < sizes_of log.records = fewer_lines c.args.cut log.records less in
    let place : c.index-first.result.now ≡ (log.first + on) % (lines - 1) =
    c.index-first.ensures ∙ ap (λ (ps : List ℕ). get_or ps c.args.cut c.index-first.result.now) is.places ∙ place-get lines log.first log.records c.args.cut c.index-first.result.now less in
    let distance : c.ring_distance-lines.result ≡ on =
    c.ring_distance-lines.ensures on (omega (arith, fewer, is.used, room)) (place ∙ ap (λ (n : ℕ). (n + on) % (lines - 1)) (sym is.first)) in
    record { place = place; others = omega (arith, c.saturating_sub.ensures, distance, is.used, sizes-parts c.args.cut log.records) }

pub returns-else-cut-len-clause-is : goal.returns-else-cut-len-clause-is
returns-else-cut-len-clause-is c = λ log is some.
    let lines : ℕ = c.args.self.now.lines in
    let room : c.args.self.now.used < lines = c.args.self.now.room in
    let long : c.len.result ≡ length c.args.self.now.places.items = search rules in
    let counted : length c.args.self.now.places.items ≡ length log.records = ap length is.places ∙ length-places lines log.first log.records in
    let all : c.args.cut ≡ length log.records = omega (arith, c.if-cut-len.false, c.requires, long, counted) in
    let on : sizes_of (take c.args.cut log.records) ≡ sizes_of log.records = ap sizes_of (take_all c.args.cut log.records (omega (arith, all))) in
    let at : c.args.self.now.first + c.args.self.now.used ≡ log.first + sizes_of (take c.args.cut log.records) = omega (arith, is.first, is.used, on) in
    let ring : c.max-ring.result ≡ lines - 1 = omega (arith, c.max-ring.ensures, some, all, sizes-least log.records, is.used, room) in
    record {
      place = ap (λ (n : ℕ). n % c.max-ring.result) at ∙ ap (λ (n : ℕ). (log.first + sizes_of (take c.args.cut log.records)) % n) ring;
      others = sym (ap sizes_of (drop_all c.args.cut log.records (omega (arith, all))));
    }
