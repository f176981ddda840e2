-- What a run of commands leaves of a channel.
use Rattle.std.proofs.Common.{◌≡◌, ℕ, suc, inl, inr, List, [], ◌∷◌, Option, Some, None, refl, ap, ◌∙◌}
use Rattle.std.proofs.lemmas.Option.{slice_get_within}
use Rattle.channel_port.specs.declared.answers.Served.TheVariants as served
use Rattle.chan_core.proofs.Common.{ChannelState, ComeBefore, IssuesChoices, Served, ServesIndex, Stamped}
use Rattle.chan_core.proofs.Taken.{before_removal}

-- The profile and the channel stay, and no later write comes.
pub record Lasts (old new : ChannelState) : Type 0 where
  pub checked : new.checked ≡ old.checked
  pub channel : new.channel ≡ old.channel
  pub numbers : (n : ℕ) → ComeBefore n old.writes → ComeBefore n new.writes

index-numbers : (index : Option ℕ) (s : Option Served) (old new : ChannelState) → ServesIndex index s old new → (n : ℕ) → ComeBefore n old.writes → ComeBefore n new.writes
index-numbers (Some index) (Some (served.Write number)) old new is n before =
    let (i, w, at, same, bytes, gone) = is.serves.writes in
    let within = slice_get_within old.writes i w at in
    rw gone (record { each = λ k v there. elim (before_removal old.writes i k v within there) [ inl b ↦ before.each k v b.1 | inr b ↦ before.each (suc k) v b.1 ] })
index-numbers (Some index) (Some (served.Read ticket)) old new is n before = rw is.serves.writes before
index-numbers (Some index) None old new is n before = absurd is
index-numbers None (Some s) old new is n before = absurd is
index-numbers None None old new is n before = rw is.writes before

pub run-lasts : (old : ChannelState) (xs : List Stamped) (new : ChannelState) → IssuesChoices old xs new → Lasts old new
run-lasts old [] new same = rw same (record { checked = refl; channel = refl; numbers = λ n before. before })
run-lasts old (x ∷ xs) new (done, mid, issues, is, rest) =
    let last = run-lasts mid xs new rest in
    record {
      checked = last.checked ∙ ap (λ (s : ChannelState). s.checked) issues.same;
      channel = last.channel ∙ ap (λ (s : ChannelState). s.channel) issues.same;
      numbers = λ n before. last.numbers n (index-numbers issues.index done.served old mid issues.serves n before);
    }
