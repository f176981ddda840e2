-- A port as the host's lines see it.
use Rattle.std.proofs.Common.{◌≡◌, ◌<◌, ℕ, List, [], ◌∷◌, ◌++◌, Ok, sym, ap, subst, ◌∙◌, arith}
use Rattle.std.proofs.lemmas.List.FromFn.{get_or-map-range_with_len}
use Rattle.ddr4_port.proofs.Common.{AddsWrite, AllBelow, AnswersGet, Carries, ChannelState, Checked, Geometry}
use Rattle.ddr4_port.proofs.Common.{IsRightPort, KeepsCarried, LiesOn, Numbered, Place, WritesAt, after, after_get}
use Rattle.ddr4_port.proofs.Common.{line_at, line_of, lines_of, listed_place, map-append, places_by, port_state, waiting_on, waits_of}
use Rattle.line_memory.specs.Parts.{AreBefore, numbered, writes_of}
use Rattle.line_memory.specs.declared.Write.{Write}
use Rattle.channel_port.specs.declared.answers.Got.{Got}
use Rattle.channel_port.specs.declared.stage.Stage.{Stage}
use Rattle.channel_port.specs.declared.waiting.Waiting.{Waiting}
use Rattle.channel_port.specs.View.{with_write}
use Rattle.ddr4_port.specs.Port.{port_view}
use Rattle.channel_port.specs.Answers.{IsGot}
use Rattle.channel_set.specs.Ports.{nowhere}
use Rattle.ddr4_port.proofs.Putting.{above-there, carries-more}
use Rattle.ddr4_port.proofs.Telling.{tells-got}

pub place-named : (f : ℕ → Place) (g : Geometry) (line : ℕ) → line < lines_of g → listed_place (places_by f g) line ≡ f line
place-named f g line less = get_or-map-range_with_len f 0 (lines_of g) line line nowhere less (omega arith)

-- the places by which a channel of this profile is seen
abbrev pub places_of : (ℕ → Place) → ChannelState → ℕ → Place
places_of f s = listed_place (places_by f s.checked.geometry)

-- where the profile stays, so do the places
pub carries-seen : (f : ℕ → Place) (s t : ChannelState) → t.checked ≡ s.checked → KeepsCarried (Carries (places_of f s) s) (Carries (places_of f s) t) → KeepsCarried (Carries (places_of f s) s) (Carries (places_of f t) t)
carries-seen f s t checked keeps base mine c = subst (λ (k : Checked). Carries (listed_place (places_by f k.geometry)) t base mine) (sym checked) (keeps base mine c)

-- a channel with one write more
pub put-view : (f : ℕ → Place) (stage : Stage) (s t : ChannelState) (number : ℕ) (write : Write) (place : Place) → AddsWrite s number place write.«data» t
    → port_view (port_state f stage t) ≡ with_write number (port_view (port_state f stage s))
put-view f stage s t number write place adds =
    ap (λ (x : ChannelState). port_view (port_state f stage x)) adds.same
    ∙ ap (λ (ws : List Waiting). record (port_view (port_state f stage s)) { waits = record (waits_of s) { writes = ws } }) (map-append (waiting_on s.channel) s.writes _)

module _ (f : ℕ → Place) (stage : Stage) (s : ChannelState) (right : IsRightPort (port_state f stage s)) where
  own-line : (line : ℕ) (place : Place) → line < lines_of s.checked.geometry → place ≡ places_of f s line → place.channel ≡ s.channel → LiesOn (places_of f s) s line
  own-line line place less named here = record { below = less; here = sym (ap (λ (p : Place). p.channel) named) ∙ here }

  pub put-carries : (t : ChannelState) (number : ℕ) (write : Write) (place : Place) → write.line < lines_of s.checked.geometry → place ≡ places_of f s write.line → place.channel ≡ s.channel
      → AllBelow number (waits_of s).writes → AddsWrite s number place write.«data» t → WritesAt s place write.«data» t
      → (base : List (List ℕ)) (mine : List Numbered) → Carries (places_of f s) s base mine → AreBefore number mine → Carries (places_of f t) t base (mine ++ numbered number write ∷ [])
  put-carries t number write place less named here above adds memory base mine c before =
      let adds' = subst (λ p. AddsWrite s number p write.«data» t) named adds in
      subst (λ (k : Checked). Carries (listed_place (places_by f k.geometry)) t base (mine ++ numbered number write ∷ [])) (sym (ap (λ (x : ChannelState). x.checked) adds'.same))
      (carries-more (places_of f s) s t number write right.channel.contents right.places (own-line write.line place less named here) (above-there s.channel number s.writes above) adds'
      (subst (λ p. WritesAt s p write.«data» t) named memory) base mine before c)

  pub get-tells : (t : ChannelState) (line at : ℕ) (place : Place) (got : Got) → line < lines_of s.checked.geometry → place ≡ places_of f s line → place.channel ≡ s.channel → t ≡ after_get s t → AnswersGet s place line at (Ok got) t
      → (base : List (List ℕ)) (mine : List Numbered) → Carries (places_of f s) s base mine → IsGot (line_of (after base (writes_of mine)) line) line at s.channel got (waits_of s) (waits_of t)
  get-tells t line at place got less named here rest answers base mine c =
      tells-got s t right.channel.contents rest place line at (line_of (after base (writes_of mine)) line) got (ap (line_at s) named ∙ c.whole line (own-line line place less named here)) answers
