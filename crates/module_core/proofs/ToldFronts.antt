-- What the channels tell a front, and what they do where it begins a save.
use Rattle.channel_port.specs.Waits.{reads_on, writes_on}
use Rattle.channel_set.specs.Carrying.{KeepsAll}
use Rattle.channel_set.specs.Set.{place_in}
use Rattle.ddr4_timing.specs.declared.place.Place.{Place}
use Rattle.module_core.specs.Fronts.{FrontMoves, TellsWrite}
use Rattle.module_core.specs.Stands.{IsCarried, MovesOn}
use Rattle.nv_machine.specs.Refusals.{need_for}
use Rattle.std.specs.Prelude.{◌==◌}
use Rattle.module_core.proofs.Common.{false, ℕ, ◌+◌, ◌<◌, ◌∙◌, ◌≡◌, Bool, ChannelsView, Ghosts, IsMemory, Machine, Matches, Mode, Module, Some, Waits, WaitsFrom, all_of, ap, base_of_life, begun_save, length, lines_of_module, made_of, memory_of, refl, setup_of, shape_of, start_of_life, subst, sym, view_of}
use Rattle.module_core.proofs.Emptied.{all_wait}

module _ {K : Type 0} (L : Ghosts K) where
  module _ (it : Module K L) (m : Machine) (h : Matches L it m) where
    -- how many writes wait
    pub told_pending : (pending : ℕ) → pending ≡ length (view_of L it.channels).waits.writes → pending ≡ length m.waits.writes
    told_pending pending is = is ∙ ap (λ (w : Waits). length w.writes) h.carried.waits

    module _ (line : ℕ) (place : Place) (there : place ≡ place_in L it.channels line) where
      -- whether the line's channel is full
      pub told_full : (is_full : Bool) → is_full ≡ (writes_on place.channel (view_of L it.channels).waits.writes == (shape_of L it.channels).depth)
          → is_full ≡ (writes_on ((shape_of L it.channels).channel_of line) m.waits.writes == (shape_of L it.channels).depth)
      told_full is_full is =
          is
          ∙ ap (λ (p : Place). writes_on p.channel (view_of L it.channels).waits.writes == (shape_of L it.channels).depth) there
          ∙ ap (λ (w : Waits). writes_on ((shape_of L it.channels).channel_of line) w.writes == (shape_of L it.channels).depth) h.carried.waits

      pub told_full_of_reads : (is_full : Bool) → is_full ≡ (reads_on place.channel (view_of L it.channels).waits.reads == (shape_of L it.channels).reads)
          → is_full ≡ (reads_on ((shape_of L it.channels).channel_of line) m.waits.reads == (shape_of L it.channels).reads)
      told_full_of_reads is_full is =
          is
          ∙ ap (λ (p : Place). reads_on p.channel (view_of L it.channels).waits.reads == (shape_of L it.channels).reads) there
          ∙ ap (λ (w : Waits). reads_on ((shape_of L it.channels).channel_of line) w.reads == (shape_of L it.channels).reads) h.carried.waits

      pub tells_write : line < lines_of_module L it → (is_full : Bool) → is_full ≡ (writes_on place.channel (view_of L it.channels).waits.writes == (shape_of L it.channels).depth)
          → (need : ℕ) → (is_full ≡ false → need ≡ need_for (setup_of L it) (length (view_of L it.channels).waits.writes + 1)) → TellsWrite (setup_of L it) m line is_full need
      tells_write within is_full full need needed = record {
        within = within;
        full = told_full is_full full;
        needed = λ room. needed room ∙ ap (λ (k : ℕ). need_for (setup_of L it) (k + 1)) (told_pending (length (view_of L it.channels).waits.writes) refl);
      }

  -- a save of all accepted writes was begun, and the channels hold back the later ones
  abbrev pub with_save : Machine → Mode → Bool → Machine
  with_save m mode armed = record m { mode = mode; store = record m.store { saving = Some (begun_save (made_of armed m)) } }

  module _ (old new : Module K L) (m : Machine) (h : Matches L old m) (mode : Mode) (armed : Bool) (held : view_of L new.channels ≡ record (view_of L old.channels) { hold = Some new.front.accepted }) where
    held_back : new.front.accepted ≡ all_of m → KeepsAll L old.channels new.channels → IsCarried L new.channels (with_save m mode armed)
    held_back count keeps = record {
      carries = keeps (base_of_life m.life) (start_of_life m.life) m.life.writes h.carried.carries;
      waits = ap (λ v. v.waits) held ∙ h.carried.waits;
      hold = ap (λ v. v.hold) held ∙ ap (λ (k : ℕ). Some k) count;
      held = λ k some. let e : all_of m ≡ k = cc some in subst (λ (n : ℕ). WaitsFrom n (all_of m) m.waits.writes) e (all_wait (all_of m) m.waits.writes);
    }

    pub saves_all : KeepsAll L old.channels new.channels → FrontMoves (lines_of_module L old) m old.front (with_save m mode armed) new.front → MovesOn L (λ m n. n ≡ with_save m mode armed) old new m
    saves_all keeps moves = record {
      later = with_save m mode armed;
      step = refl;
      matches = record {
        front = moves.matches;
        memory = subst (λ (v : ChannelsView). IsMemory v.shape.lines (memory_of m)) (sym held) h.memory;
        carried = held_back moves.matches.accepted keeps;
      };
      moves = moves.moves;
    }
