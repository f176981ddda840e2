-- The commands that the channels issue through events.
use Rattle.std.proofs.Common.{length-set, slice_index_or, slice_set}
use Rattle.std.proofs.lemmas.Bool.{cases_eq, eq-eqb, ne_eqb}
use Rattle.std.proofs.lemmas.List.{append_assoc, get_or-set_other, get_or-set_same, length-map}
use Rattle.std.proofs.lemmas.List.Elements.{All-head, All-tail}
use Rattle.std.specs.Prelude.{◌==◌}
use Rattle.ddr4_timing.specs.declared.command.Stamped.{Stamped}
use Rattle.arm_state.specs.declared.loss.Loss.TheVariants as loss
use Rattle.channel_set.specs.Issuing.{IssuesNone, issued_in, with_issued_on}
use Rattle.channel_set.specs.declared.set.ChannelSet.{ChannelSet}
use Rattle.nv_machine.specs.declared.events.Event.TheVariants as events
use Rattle.nv_machine.specs.declared.events.Reply.TheVariants as replies
use Rattle.module_core.specs.IssuedRuns.{HaveIssued, RunsIssue, begins_drains, issued_on, told_by, told_on}
use Rattle.module_core.specs.Issuing.{Issues}
use Rattle.module_core.specs.Stands.{Point}
use Rattle.module_core.proofs.Applying.{quiet}
use Rattle.module_core.proofs.Common.{if◌then◌else◌, [], ℕ, ◌++◌, ◌<◌, ◌∙◌, ◌∷◌, ◌≡◌, Bool, Event, Ghosts, List, None, Reply, Some, ap, append-nil, arith, false, inl, inr, length, sym}

-- the list of a channel once one command more is in the list of one
one-more : (lists : List (List Stamped)) (worked channel : ℕ) (command : Stamped) → channel < length lists
    → slice_index_or (with_issued_on worked (Some command) lists) channel [] ≡ slice_index_or lists channel [] ++ (if worked == channel then command ∷ [] else [])
one-more lists worked channel command less =
    let own : List Stamped = slice_index_or lists worked [] ++ command ∷ [] in
    elim (cases_eq worked channel) [
      | inl same ↦
          ap (λ (k : ℕ). slice_index_or (slice_set lists worked own) k []) (sym same)
          ∙ get_or-set_same lists worked own [] (omega (arith, less, same))
          ∙ ap (λ (k : ℕ). slice_index_or lists k [] ++ command ∷ []) same
          ∙ ap (λ (b : Bool). slice_index_or lists channel [] ++ (if b then command ∷ [] else [])) (sym (eq-eqb worked channel same))
      | inr apart ↦
          get_or-set_other lists worked channel own [] (λ e. apart (sym e))
          ∙ sym (append-nil (slice_index_or lists channel []))
          ∙ ap (λ (b : Bool). slice_index_or lists channel [] ++ (if b then command ∷ [] else [])) (sym (ne_eqb worked channel apart))
    ]

module _ {K : Type 0} (L : Ghosts K) where
  size-of : (channels : ChannelSet K L) → length (issued_in L channels) ≡ length channels.ports.items
  size-of channels = length-map channels.ports.items L.issued

  none-told : (old new : ChannelSet K L) → IssuesNone L old new → HaveIssued L (λ channel. []) old new
  none-told old new none = record {
    checked = none.checked;
    count = sym (size-of new) ∙ ap length none.lists ∙ size-of old;
    lists = λ channel less. ap (λ (lists : List (List Stamped)). slice_index_or lists channel []) none.lists ∙ sym (append-nil (issued_on L old channel));
  }

  -- one event
  event-issues : (event : Event) (reply : Reply) (old new : ChannelSet K L) → Issues L event reply old new → begins_drains reply ≡ false → HaveIssued L (λ channel. told_by channel event reply) old new
  event-issues (events.Work worked) (replies.Work (Some done)) old new issues none = record {
    checked = issues.checked;
    count = sym (size-of new) ∙ ap length issues.lists ∙ length-set (issued_in L old) worked _ ∙ size-of old;
    lists = λ channel less.
        ap (λ (lists : List (List Stamped)). slice_index_or lists channel []) issues.lists
        ∙ one-more (issued_in L old) worked channel done.command (omega (arith, less, size-of old));
  }
  event-issues (events.Work worked) (replies.Work None) old new issues none = none-told old new (quiet L worked old new issues)
  event-issues events.Lose (replies.Lose (loss.Saved generation count)) old new issues none = absurd (let bad : ⊥ = cc in bad)
  event-issues events.Lose (replies.Lose loss.Fault) old new issues none = absurd (let bad : ⊥ = cc in bad)
  event-issues events.Lose (replies.Lose loss.Dark) old new issues none = absurd (let bad : ⊥ = cc in bad)
  event-issues event reply old new issues none = none-told old new issues

  -- events in turn
  pub runs_issue : RunsIssue L
  runs_issue setup [] [] old new run none = none-told old.channels new.channels (record { lists = ap (λ (p : Point L). issued_in L p.channels) run.is; checked = ap (λ (p : Point L). p.channels.terms.checked) run.is })
  runs_issue setup (event ∷ events) (reply ∷ replies) old new run none =
      let mid : Point L = run.0 in
      let first = event-issues event reply old.channels mid.channels run.1.happens.issues (All-head (λ (r : Reply). begins_drains r ≡ false) reply replies none) in
      let rest = runs_issue setup events replies mid new run.2 (All-tail (λ (r : Reply). begins_drains r ≡ false) reply replies none) in
      record {
        checked = rest.checked ∙ first.checked;
        count = rest.count ∙ first.count;
        lists = λ channel less.
            rest.lists channel (omega (arith, less, first.count))
            ∙ ap (λ (list : List Stamped). list ++ told_on channel events replies) (first.lists channel less)
            ∙ append_assoc (issued_on L old.channels channel) (told_by channel event reply) (told_on channel events replies);
      }
  runs_issue setup events replies old new run none = absurd run
