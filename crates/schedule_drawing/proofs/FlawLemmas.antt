-- The flaws of one channel more.
use Rattle.std.proofs.Common.{◌≡◌, ◌∙◌, ℕ, ◌+◌, List, [], ◌∷◌, ◌++◌, ap, arith, refl, subst, sym}
use Rattle.std.specs.List.{range_with_len}
use Rattle.std.proofs.lemmas.List.{map-id}
use Rattle.std.proofs.lemmas.List.FromFn.{map-range_with_len_more}
use Rattle.ddr4_timing.specs.declared.timing.CommandRules.{CommandRules}
use Rattle.command_trace.specs.declared.entry.ChannelCommand.{ChannelCommand}
use Rattle.schedule_drawing.specs.declared.flaws.Flaw.{Flaw}
use Rattle.schedule_drawing.specs.Flaws.{AddsAll, AddsFlaws}

adds_last : (c : CommandRules) (entries : List ChannelCommand) (channels : List ℕ) (channel : ℕ) (old between new : List Flaw) → AddsAll c entries channels old between
    → AddsFlaws c channel entries between new → AddsAll c entries (channels ++ channel ∷ []) old new
adds_last c entries [] channel old between new none adds = (new, subst (λ (from : List Flaw). AddsFlaws c channel entries from new) none adds, refl)
adds_last c entries (first ∷ channels) channel old between new all adds = (all.0, all.1, adds_last c entries channels channel all.0 between new all.2 adds)

pub range_more : (n : ℕ) → range_with_len 0 (n + 1) ≡ range_with_len 0 n ++ n ∷ []
range_more n =
    sym (map-id (range_with_len 0 (n + 1))) ∙ map-range_with_len_more (λ (k : ℕ). k) 0 n n (omega arith) ∙ ap (λ (front : List ℕ). front ++ n ∷ []) (map-id (range_with_len 0 n))

pub adds_more : (c : CommandRules) (entries : List ChannelCommand) (n : ℕ) (between new : List Flaw) → AddsAll c entries (range_with_len 0 n) [] between
    → AddsFlaws c n entries between new → AddsAll c entries (range_with_len 0 (n + 1)) [] new
adds_more c entries n between new all adds =
    subst (λ (channels : List ℕ). AddsAll c entries channels [] new) (sym (range_more n)) (adds_last c entries (range_with_len 0 n) n [] between new all adds)
