use Rattle.std.proofs.Common.{if◌then◌else◌, is_ok}
use Rattle.std.proofs.lemmas.List.{length-replicate}
use Rattle.sha2.specs.Sha256.{sha256}
use Rattle.save_device.specs.Changes.{Change}
use Rattle.save_image.specs.Body.{bytes_of}
use Rattle.save_image.specs.Image.{digest_of}
use Rattle.slot_store.specs.Changes.{planned}
use Rattle.slot_store.specs.Runs.{MakesStep}
use Rattle.slot_store.specs.Steps.{lines_before}
use Rattle.slot_store.specs.declared.saving.SaveRun.{SaveRun}
use Rattle.slot_store.proofs.Common.{[], ℕ, ◌*◌, ◌+◌, ◌∙◌, ◌∷◌, ◌≡◌, ◌⊎◌, Bool, Close, DeviceState, Done, Header, List, Makes, Open, Page, Plan, Put, Settle, Step, SyncBody, SyncClosed, SyncOpen, ap, change_of, drop, false, gate_of, inl, inr, replicate, subst, sym, take, true}
use Rattle.slot_store.proofs.Digested.{all_lines}
use Rattle.slot_store.proofs.saving.SaveRun.call.Goals as goal

-- what a step changes that stands at this one
module _ (plan : Plan) (digest : List ℕ) (next : Step) (page : List ℕ) where
  gate_closes : (closed : Bool) → next ≡ Close → plan.closed ≡ closed → change_of plan digest next page ≡ (if closed then Settle else Put (gate_of plan) (0 ∷ []))
  gate_closes closed at is = ap (λ (step : Step). change_of plan digest step page) at ∙ ap (λ (b : Bool). if b then Settle else Put (gate_of plan) (0 ∷ [])) is

  gate_shuts : (start : ℕ) → next ≡ Close → plan.closed ≡ false → start ≡ gate_of plan → change_of plan digest next page ≡ Put start (0 ∷ [])
  gate_shuts start at is place = gate_closes false at is ∙ ap (λ (i : ℕ). Put i (0 ∷ [])) (sym place)

  page_put : (k start : ℕ) → next ≡ Page k → start ≡ gate_of plan → change_of plan digest next page ≡ Put (start + 4096 + 4096 * k) page
  page_put k start at is = ap (λ (step : Step). change_of plan digest step page) at ∙ ap (λ (i : ℕ). Put (i + 4096 + 4096 * k) page) (sym is)

  gate_opens : (start : ℕ) → next ≡ Open → start ≡ gate_of plan → change_of plan digest next page ≡ Put start (0xA5 ∷ [])
  gate_opens start at is = ap (λ (step : Step). change_of plan digest step page) at ∙ ap (λ (i : ℕ). Put i (0xA5 ∷ [])) (sym is)

  all_settles : (next ≡ SyncClosed) ⊎ ((next ≡ SyncBody) ⊎ ((next ≡ SyncOpen) ⊎ (next ≡ Done))) → change_of plan digest next page ≡ Settle
  all_settles (inl at) = ap (λ (step : Step). change_of plan digest step page) at
  all_settles (inr (inl at)) = ap (λ (step : Step). change_of plan digest step page) at
  all_settles (inr (inr (inl at))) = ap (λ (step : Step). change_of plan digest step page) at
  all_settles (inr (inr (inr at))) = ap (λ (step : Step). change_of plan digest step page) at

  header_put : (start : ℕ) (tail : List ℕ) → next ≡ Header → start ≡ gate_of plan → tail ≡ drop 1 (planned plan digest 0) → change_of plan digest next page ≡ Put (start + 1) tail
  header_put start tail at is tail_is =
      ap (λ (step : Step). change_of plan digest step page) at
      ∙ ap (λ (i : ℕ). Put (i + 1) (drop 1 (planned plan digest 0))) (sym is) ∙ ap (λ (bytes : List ℕ). Put (start + 1) bytes) (sym tail_is)

not_header : (next : Step) → (next ≡ SyncClosed) ⊎ ((next ≡ SyncBody) ⊎ ((next ≡ SyncOpen) ⊎ (next ≡ Done))) → next ≡ Header → ⊥
not_header next (inl is) at = let e : SyncClosed ≡ Header = sym is ∙ at in (let bad : ⊥ = cc in bad)
not_header next (inr (inl is)) at = let e : SyncBody ≡ Header = sym is ∙ at in (let bad : ⊥ = cc in bad)
not_header next (inr (inr (inl is))) at = let e : SyncOpen ≡ Header = sym is ∙ at in (let bad : ⊥ = cc in bad)
not_header next (inr (inr (inr is))) at = let e : Done ≡ Header = sym is ∙ at in (let bad : ⊥ = cc in bad)

-- the digest of a step that writes no header is none that anything speaks of
none : List ℕ
none = replicate 32 0

-- a call of a step that writes no header
makes_other : (run : SaveRun) (page : List ℕ) (good : Bool) (old new : DeviceState) (change : Change) → (run.next ≡ Header → ⊥) → change_of run.plan none run.next page ≡ change → Makes change good old new → MakesStep run page good old new
unfolding none
makes_other run page good old new change other is makes = record {
  digest = none;
  size = length-replicate {A = ℕ} 32 0;
  own = λ memory fits digested at. absurd (other at);
  makes = subst (λ (c : Change). Makes c good old new) (sym is) makes;
}

pub returns-then-self : goal.returns-then-self
returns-then-self g c =
    let S = g.D.SaveDevice in let run = c.args.self.now in
    makes_other run c.args.page.now (is_ok c.sync.result) (S.state c.args.device.now) (S.state c.sync.new.self) Settle (λ at. let e : Close ≡ Header = sym c.in-Close.is ∙ at in (let bad : ⊥ = cc in bad)) (gate_closes run.plan none run.next c.args.page.now true c.in-Close.is c.if-self.true) c.sync.ensures

pub returns-else-self : goal.returns-else-self
returns-else-self g c =
    let S = g.D.SaveDevice in let run = c.args.self.now in
    makes_other run c.args.page.now (is_ok c.write_at.result) (S.state c.args.device.now) (S.state c.write_at.new.self) (Put c.start-start.result (0 ∷ [])) (λ at. let e : Close ≡ Header = sym c.in-Close.is ∙ at in (let bad : ⊥ = cc in bad)) (gate_shuts run.plan none run.next c.args.page.now c.start-start.result c.in-Close.is c.if-self.false c.start-start.ensures) c.write_at.ensures

pub returns-in-Page : goal.returns-in-Page
returns-in-Page g c =
    let S = g.D.SaveDevice in let run = c.args.self.now in
    makes_other run c.args.page.now (is_ok c.write_at-in-Page.result) (S.state c.args.device.now) (S.state c.write_at-in-Page.new.self) (Put (c.start-start.result + 4096 + 4096 * c.in-Page.k) c.args.page.now) (λ at. let e : Page c.in-Page.k ≡ Header = sym c.in-Page.is ∙ at in (let bad : ⊥ = cc in bad)) (page_put run.plan none run.next c.args.page.now c.in-Page.k c.start-start.result c.in-Page.is c.start-start.ensures) c.write_at-in-Page.ensures

pub returns-in-Open : goal.returns-in-Open
returns-in-Open g c =
    let S = g.D.SaveDevice in let run = c.args.self.now in
    makes_other run c.args.page.now (is_ok c.write_at-in-Open.result) (S.state c.args.device.now) (S.state c.write_at-in-Open.new.self) (Put c.start-start.result (0xA5 ∷ [])) (λ at. let e : Open ≡ Header = sym c.in-Open.is ∙ at in (let bad : ⊥ = cc in bad)) (gate_opens run.plan none run.next c.args.page.now c.start-start.result c.in-Open.is c.start-start.ensures) c.write_at-in-Open.ensures

pub returns-in-SyncClosed : goal.returns-in-SyncClosed
returns-in-SyncClosed g c =
    let S = g.D.SaveDevice in let run = c.args.self.now in
    makes_other run c.args.page.now (is_ok c.sync-in-SyncClosed.result) (S.state c.args.device.now) (S.state c.sync-in-SyncClosed.new.self) Settle (not_header run.next c.in-SyncClosed.is)
    (all_settles run.plan none run.next c.args.page.now c.in-SyncClosed.is) c.sync-in-SyncClosed.ensures

pub returns-in-Header : goal.returns-in-Header
unfolding digest_of
returns-in-Header g c =
    let S = g.D.SaveDevice in let run = c.args.self.now in
    record {
      digest = c.digest.result;
      size = c.digest.ensures.size;
      own = λ memory fits digested at. c.digest.ensures.digest (bytes_of (take (lines_before run.plan.lines run.next) memory)) digested ∙ ap sha256 (all_lines run.plan.lines memory run.next fits at);
      makes = subst (λ (change : Change). Makes change (is_ok c.write_at-in-Header.result) (S.state c.args.device.now) (S.state c.write_at-in-Header.new.self))
          (sym (header_put run.plan c.digest.result run.next c.args.page.now c.start-start.result c.tail_of.result.now c.in-Header.is c.start-start.ensures (c.tail_of.ensures.tail ∙ ap (drop 1) c.header_bytes_2-header.ensures)))
          c.write_at-in-Header.ensures;
    }
