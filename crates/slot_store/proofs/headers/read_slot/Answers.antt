use Rattle.slot_store.specs.Slots.{slot_state, slot_with}
use Rattle.slot_store.specs.Told.{header_in_page}
use Rattle.slot_store.proofs.Common.{ℕ, ◌+◌, ◌∙◌, ◌≡◌, List, ap, body_in, page_in, slice_range, sym}
use Rattle.slot_store.proofs.headers.read_slot.Goals as goal

pub returns-clause-state : goal.returns-clause-state
unfolding slot_state
returns-clause-state g c =
    let seen : List ℕ = (g.D.SaveDevice.state c.args.device.now).bytes in
    let page : page_in c.args.lines c.args.slot seen ≡ c.in_ok-page.page = ap (λ (i : ℕ). slice_range seen i (i + 4096)) (sym c.start.ensures) ∙ sym c.in_ok-page.ensures.page in
    ap (λ (p : List ℕ). slot_with c.args.lines p (body_in c.args.lines c.args.slot seen)) page ∙ c.reading_of.ensures.state (body_in c.args.lines c.args.slot seen)

pub returns-clause-header : goal.returns-clause-header
returns-clause-header g c =
    let seen : List ℕ = (g.D.SaveDevice.state c.args.device.now).bytes in
    let page : page_in c.args.lines c.args.slot seen ≡ c.in_ok-page.page = ap (λ (i : ℕ). slice_range seen i (i + 4096)) (sym c.start.ensures) ∙ sym c.in_ok-page.ensures.page in
    ap (header_in_page c.args.lines) page ∙ c.reading_of.ensures.header
