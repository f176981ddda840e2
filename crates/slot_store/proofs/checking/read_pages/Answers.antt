use Rattle.save_device.proofs.ReadRuns.{reads_stop}
use Rattle.save_image.proofs.BodyLaws.{length-lines_in, lines_in-page}
use Rattle.slot_store.proofs.Common.{ℕ, ◌*◌, ◌++◌, ◌+◌, ◌∙◌, ◌≡◌, List, Moment, ap, arith, drop, false, length, lines_in, reads_on, slice_range, sym, true}
use Rattle.slot_store.proofs.checking.read_pages.Goals as goal

pub returns-in_default-read_page-clause-reads : goal.returns-in_default-read_page-clause-reads
returns-in_default-read_page-clause-reads g c =
    let S = g.D.SaveDevice in let old = S.state c.args.device.now in let new = S.state c.read_page.new.device in let so_far = c.loop-page.page in
    reads_stop (so_far + 1) c.args.pages old new (omega arith) (reads_on so_far 1 false old (S.state c.loop-page.device) new c.loop-page.invariant.reads c.in_default-read_page.ensures.reads)

pub push_page-requires : goal.push_page-requires
push_page-requires g c =
    let inv = c.loop-page.invariant in let rest : List ℕ = drop c.args.at (g.D.SaveDevice.state c.args.device.now).bytes in
    omega (arith, inv.capacity, ap length inv.lines, length-lines_in (64 * c.loop-page.page) rest, c.loop-page.memory.ok)

pub loop-page-preserved : goal.loop-page-preserved
loop-page-preserved g c =
    let S = g.D.SaveDevice in let seen : List ℕ = (S.state c.args.device.now).bytes in let inv = c.loop-page.invariant in let at : ℕ = c.args.at + 4096 * c.loop-page.page in
    let same : (S.state c.loop-page.device).bytes ≡ seen = ap (λ (moment : Moment). moment.bytes) inv.reads.same in
    record {
      lines = c.push_page.ensures.items ∙ ap (λ (m : List (List ℕ)). m ++ lines_in 64 c.in-Ok-read_page.bytes) inv.lines
          ∙ ap (λ (page : List ℕ). lines_in (64 * c.loop-page.page) (drop c.args.at seen) ++ lines_in 64 page) (c.in-Ok-read_page.ensures.page ∙ ap (λ (row : List ℕ). slice_range row at (at + 4096)) same)
          ∙ sym (lines_in-page c.args.at c.loop-page.page seen);
      capacity = c.push_page.ensures.capacity ∙ inv.capacity;
      reads = reads_on c.loop-page.page 1 true (S.state c.args.device.now) (S.state c.loop-page.device) (S.state c.read_page.new.device) inv.reads c.in-Ok-read_page.ensures.reads;
    }
