use Rattle.std.proofs.Math.Seq.{take-add}
use Rattle.std.proofs.lemmas.List.{drop-drop}
use Rattle.sha2.specs.Hashers.{Holds256}
use Rattle.save_device.proofs.ReadRuns.{reads_stop}
use Rattle.save_image.proofs.BodyLaws.{bytes_of-lines_in}
use Rattle.save_image.specs.Body.{bytes_of}
use Rattle.save_image.specs.Image.{digest_of}
use Rattle.slot_store.proofs.Common.{ℕ, ◌*◌, ◌++◌, ◌+◌, ◌-◌, ◌∙◌, ◌≡◌, Bool, List, Moment, OnlyReads, ap, arith, drop, false, lines_in, on_err, reads_on, slice_range, subst, sym, take, true}
use Rattle.slot_store.proofs.checking.body_digest.Goals as goal

-- the bytes of the lines up to a page, and of the page
one_page_more : (at page : ℕ) (bytes : List ℕ)
    → bytes_of (lines_in (64 * (page + 1)) (drop at bytes)) ≡ bytes_of (lines_in (64 * page) (drop at bytes)) ++ slice_range bytes (at + 4096 * page) (at + 4096 * page + 4096)
one_page_more at page bytes =
    let row : List ℕ = drop at bytes in let here : ℕ = at + 4096 * page in
    bytes_of-lines_in (64 * (page + 1)) row
    ∙ ap (λ (n : ℕ). take n row) (let e : 64 * (64 * (page + 1)) ≡ 64 * (64 * page) + 4096 = omega arith in e)
    ∙ take-add (64 * (64 * page)) 4096 row
    ∙ ap (λ (first : List ℕ). first ++ take 4096 (drop (64 * (64 * page)) row)) (sym (bytes_of-lines_in (64 * page) row))
    ∙ ap (λ (rest : List ℕ). bytes_of (lines_in (64 * page) row) ++ take 4096 rest) (drop-drop (64 * (64 * page)) at bytes ∙ ap (λ (k : ℕ). drop k bytes) (let e : at + 64 * (64 * page) ≡ here = omega arith in e))
    ∙ ap (λ (n : ℕ). bytes_of (lines_in (64 * page) row) ++ take n (drop here bytes)) (let e : 4096 ≡ here + 4096 - here = omega arith in e)

pub returns-in_err-bytes-clause-reads : goal.returns-in_err-bytes-clause-reads
returns-in_err-bytes-clause-reads g c =
    let S = g.D.SaveDevice in let old = S.state c.args.device.now in let new = S.state c.read_page.new.device in let so_far = c.loop-page.page in
    on_err c.from_residual.result (λ (good : Bool). OnlyReads c.args.pages good old new) c.from_residual.ensures.0
    (reads_stop (so_far + 1) c.args.pages old new (omega arith) (reads_on so_far 1 false old (S.state c.loop-page.device) new c.loop-page.invariant.reads c.in_err-bytes.ensures.reads))

pub loop-page-preserved : goal.loop-page-preserved
loop-page-preserved g c =
    let S = g.D.SaveDevice in let seen : List ℕ = (S.state c.args.device.now).bytes in let inv = c.loop-page.invariant in let at : ℕ = c.args.at + 4096 * c.loop-page.page in
    let same : (S.state c.loop-page.device).bytes ≡ seen = ap (λ (moment : Moment). moment.bytes) inv.reads.same in
    let so_far : List ℕ = bytes_of (lines_in (64 * c.loop-page.page) (drop c.args.at seen)) in
    let page : c.in_ok-bytes.bytes ≡ slice_range seen at (at + 4096) = c.in_ok-bytes.ensures.page ∙ ap (λ (row : List ℕ). slice_range row at (at + 4096)) same in
    let whole : so_far ++ c.in_ok-bytes.bytes ≡ bytes_of (lines_in (64 * (c.loop-page.page + 1)) (drop c.args.at seen)) =
    ap (λ (bytes : List ℕ). so_far ++ bytes) page ∙ sym (one_page_more c.args.at c.loop-page.page seen) in
    record {
      holds = subst (λ (message : List ℕ). Holds256 c.update.new.self message) whole (c.update.ensures so_far inv.holds);
      reads = reads_on c.loop-page.page 1 true (S.state c.args.device.now) (S.state c.loop-page.device) (S.state c.read_page.new.device) inv.reads c.in_ok-bytes.ensures.reads;
    }

pub returns-clause-digest : goal.returns-clause-digest
unfolding digest_of
returns-clause-digest g c =
    let rest : List ℕ = drop c.args.at (g.D.SaveDevice.state c.args.device.now).bytes in
    let done = c.loop-page.auto.page-end in
    let all : c.loop-page.page ≡ c.args.pages = omega arith in
    c.finalize.ensures (bytes_of (lines_in (64 * c.args.pages) rest)) (subst (λ (n : ℕ). Holds256 c.loop-page.hasher (bytes_of (lines_in (64 * n) rest))) all c.loop-page.invariant.holds)
