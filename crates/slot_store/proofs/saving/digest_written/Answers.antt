use Rattle.sha2.specs.Hashers.{Holds256}
use Rattle.slot_store.specs.Changes.{body_bytes}
use Rattle.slot_store.proofs.Common.{[], ℕ, ◌++◌, ◌∙◌, ◌≡◌, Close, Done, Header, List, Open, Page, Step, SyncBody, SyncClosed, SyncOpen, ap, append-nil, refl, subst, sym}
use Rattle.slot_store.proofs.saving.digest_written.Goals as goal

-- a step that is no page writes nothing of the body
writes_none : (step : Step) (page : List ℕ) → ((k : ℕ) → step ≡ Page k → ⊥) → body_bytes step page ≡ []
writes_none Close page other = refl
writes_none SyncClosed page other = refl
writes_none (Page k) page other = absurd (other k refl)
writes_none Header page other = refl
writes_none SyncBody page other = refl
writes_none Open page other = refl
writes_none SyncOpen page other = refl
writes_none Done page other = refl

pub returns-in-Page : goal.returns-in-Page
returns-in-Page c = λ message holds. rw c.in-Page.is (c.update.ensures message holds)

pub returns-in_default : goal.returns-in_default
returns-in_default c = λ message holds.
    let same : message ++ body_bytes c.args.step c.args.page.now ≡ message =
    ap (λ (bytes : List ℕ). message ++ bytes) (writes_none c.args.step c.args.page.now c.in_default.not-Page) ∙ append-nil message in
    subst (λ (bytes : List ℕ). Holds256 c.args.hasher.now bytes) (sym same) holds
