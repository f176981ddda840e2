-- A channel whose array is filled with the lines of a memory, one line after the other.
use Rattle.std.proofs.Common.{◌≡◌, ◌≢◌, ◌+◌, ◌<◌, ◌≤◌, ◌^◌, ℕ, List, [], filter, get_or, length, nat_lt, slice_get, slice_index_or, slice_set, inl, inr, Some, refl, sym, ap, subst, ◌∙◌, arith, length-set, get_or-set_same, get_or-set_other, ⊎_elim}
use Rattle.std.proofs.lemmas.Bool.Decides.{eqb_tells}
use Rattle.std.proofs.lemmas.Option.{slice_get_read}
use Rattle.ddr4_port.proofs.Common.{AreUnused, BeginsWith, Carries, ChannelState, Checked, Geometry, HoldsFirst}
use Rattle.ddr4_port.proofs.Common.{IsChannel, IsFresh, IsInterleaving, IsPlaceOn, IsUnused, LiesOn}
use Rattle.ddr4_port.proofs.Common.{PendingWrite, Place, PortState, cell_in, line_of, lines_of, listed_place, loaded_at}
use Rattle.ddr4_port.proofs.Common.{new_channel, places_by, stored_at}
use Rattle.ddr4_timing.specs.Places.{LiesIn}
use Rattle.ddr4_timing.specs.declared.command.Stamped.{Stamped}
use Rattle.interleave_map.specs.Cells.{cells_of}
use Rattle.interleave_map.proofs.Numbering.{cell_within, same_cell_same_place}
use Rattle.wpq_core.specs.PendingMemory.{after_pending}
use Rattle.frfcfs.specs.Margin.{last_clock}
use Rattle.channel_port.specs.declared.stage.Stage.TheVariants.{OnMains}
use Rattle.channel_set.proofs.Lists.{set-cases}
use Rattle.ddr4_port.proofs.Keeping.{carried}
use Rattle.ddr4_port.proofs.Seen.{place-named, places_of}
use Rattle.ddr4_port.proofs.Standing.{IsPort}

-- So far it has no command and no request, and its first lines are those of the memory.
pub record IsFilling (f : ℕ → Place) (checked : Checked) (number depth reads : ℕ) (memory : List (List ℕ)) (n : ℕ) (s : ChannelState) : Type 0 where
  pub fresh : IsFresh checked number depth reads s
  pub size : length s.array ≡ cells_of checked.geometry
  pub holds : HoldsFirst f memory n s

module _ (f : ℕ → Place) (checked : Checked) (number depth reads : ℕ) (memory : List (List ℕ)) (map : IsInterleaving checked.geometry f) (n : ℕ) (s : ChannelState) (fill : IsFilling f checked number depth reads memory n s) where
  same-checked : s.checked ≡ checked
  same-checked = ap (λ (x : ChannelState). x.checked) fill.fresh

  same-number : s.channel ≡ number
  same-number = ap (λ (x : ChannelState). x.channel) fill.fresh

  seen : IsInterleaving s.checked.geometry f
  seen = subst (λ (c : Checked). IsInterleaving c.geometry f) (sym same-checked) map

  in-all : n < lines_of checked.geometry → n < lines_of s.checked.geometry
  in-all less = subst (λ (c : Checked). n < lines_of c.geometry) (sym same-checked) less

  -- the next line's place, where it is on this channel
  pub loads-there : n < lines_of checked.geometry → (f n).channel ≡ number → IsPlaceOn s (f n)
  loads-there less here = record { lies_in = seen.lies_in n (in-all less); here = here ∙ sym same-number }

  pub loads-quiet : s.requests ≡ []
  loads-quiet = ap (λ (x : ChannelState). x.requests) fill.fresh

  -- another channel's line
  pub passes : (f n).channel ≢ number → IsFilling f checked number depth reads memory (n + 1) s
  passes other = record {
    fresh = fill.fresh;
    size = fill.size;
    holds = λ line below lies. ⊎_elim
        (λ same. absurd (other (sym (ap (λ k. (f k).channel) same.1) ∙ lies.here ∙ same-number)))
        (λ apart. fill.holds line (omega (arith, below, apart.1)) lies)
        (eqb_tells line n);
  }

  -- a line of this channel
  module _ (bytes : List ℕ) (less : n < lines_of checked.geometry) (here : (f n).channel ≡ number) (value : bytes ≡ line_of memory n) where
    abbrev later : ChannelState
    later = loaded_at s (f n) bytes

    within : cell_in s (f n) < length s.array
    within =
        let size : length s.array ≡ cells_of s.checked.geometry = fill.size ∙ sym (ap (λ (c : Checked). cells_of c.geometry) same-checked) in
        omega (arith, size, cell_within s.checked.geometry (f n) (seen.lies_in n (in-all less)))

    line-here : stored_at later (f n) ≡ line_of memory n
    line-here = get_or-set_same s.array (cell_in s (f n)) bytes [] within ∙ value

    line-elsewhere : (line : ℕ) → line < n → LiesOn f s line → stored_at later (f line) ≡ line_of memory line
    line-elsewhere line below lies =
        let g = s.checked.geometry in
        let other : cell_in s (f line) ≢ cell_in s (f n) = λ e.
        let same = seen.apart line n lies.below (in-all less) (same_cell_same_place g (f line) (f n) (seen.lies_in line lies.below) (seen.lies_in n (in-all less)) (lies.here ∙ same-number ∙ sym here) e) in
        omega (arith, below, same) in
        get_or-set_other s.array (cell_in s (f n)) (cell_in s (f line)) bytes [] other ∙ fill.holds line below lies

    pub loads : IsFilling f checked number depth reads memory (n + 1) later
    loads = record {
      fresh = ap (λ (x : ChannelState). record x { array = later.array }) fill.fresh;
      size = length-set s.array (cell_in s (f n)) bytes ∙ fill.size;
      holds = λ line below lies. ⊎_elim
          (λ same. subst (λ k. stored_at later (f k) ≡ line_of memory k) (sym same.1) line-here)
          (λ apart. line-elsewhere line (omega (arith, below, apart.1)) (record { below = lies.below; here = lies.here }))
          (eqb_tells line n);
    }

-- as it is made
pub fresh-made : (checked : Checked) (number depth reads : ℕ) (array : List (List ℕ)) (s : ChannelState) → s ≡ new_channel checked number array depth reads → IsFresh checked number depth reads s
fresh-made checked number depth reads array s made = made ∙ ap (λ a. new_channel checked number a depth reads) (sym (ap (λ (x : ChannelState). x.array) made))

-- before its first line
pub fresh-fills : (f : ℕ → Place) (checked : Checked) (number depth reads : ℕ) (s : ChannelState) → IsFresh checked number depth reads s → length s.array ≡ cells_of checked.geometry → IsFilling f checked number depth reads [] 0 s
fresh-fills f checked number depth reads s fresh size = record { fresh = fresh; size = size; holds = λ line below. absurd (omega (arith, below)) }

-- a port whose first lines, those below n, are those of the memory
pub record IsFilled (f : ℕ → Place) (checked : Checked) (depth reads : ℕ) (memory : List (List ℕ)) (n number : ℕ) (port : PortState) : Type 0 where
  pub unused : IsUnused f checked depth reads number port
  pub holds : HoldsFirst f memory n port.channel

-- such ports, side by side
pub record AreFilled (f : ℕ → Place) (checked : Checked) (depth reads : ℕ) (memory : List (List ℕ)) (n : ℕ) (ports : List PortState) : Type 0 where
  pub count : length ports ≡ checked.geometry.channels
  pub each : (number : ℕ) (port : PortState) → slice_get ports number ≡ Some port → IsFilled f checked depth reads memory n number port

module _ (f : ℕ → Place) (checked : Checked) (depth reads : ℕ) (memory : List (List ℕ)) where
  -- before the first line
  pub none-filled : (ports : List PortState) → AreUnused f checked depth reads ports → AreFilled f checked depth reads memory 0 ports
  none-filled ports are = record {
    count = are.count;
    each = λ number port there. record { unused = are.each number port there; holds = λ line below. absurd (omega (arith, below)) };
  }

  module _ (n number : ℕ) (port : PortState) (filled : IsFilled f checked depth reads memory n number port) where
    pub filling : IsFilling f checked number depth reads memory n port.channel
    filling = record { fresh = filled.unused.fresh; size = filled.unused.size; holds = filled.holds }

    -- its channel goes on
    goes-on : (next : ChannelState) → IsFilling f checked number depth reads memory (n + 1) next → IsFilled f checked depth reads memory (n + 1) number (record port { channel = next })
    goes-on next fill = record {
      unused = record { fresh = fill.fresh; stage = filled.unused.stage; places = filled.unused.places; size = fill.size };
      holds = fill.holds;
    }

  -- the next line, on the port of its channel
  module _ (map : IsInterleaving checked.geometry f) (n : ℕ) (ports : List PortState) (are : AreFilled f checked depth reads memory n ports) (less : n < lines_of checked.geometry) where
    pub stands-there : (f n).channel < length ports
    stands-there = omega (arith, are.count, (map.lies_in n less).channel)

    pub port-there : (place : Place) (p : PortState) → place ≡ f n → p ≡ get_or ports place.channel p → slice_get ports (f n).channel ≡ Some p
    port-there place p is read = slice_get_read ports (length ports) (f n).channel p refl stands-there (read ∙ ap (λ (x : Place). get_or ports x.channel p) is)

    module _ (p : PortState) (at : slice_get ports (f n).channel ≡ Some p) where
      is-filling : IsFilling f checked (f n).channel depth reads memory n p.channel
      is-filling = filling n (f n).channel p (are.each (f n).channel p at)

      pub may-load : IsPlaceOn p.channel (f n)
      may-load = loads-there f checked (f n).channel depth reads memory map n p.channel is-filling less refl

      pub load-quiet : p.channel.requests ≡ []
      load-quiet = loads-quiet f checked (f n).channel depth reads memory map n p.channel is-filling

      pub one-more : (bytes : List ℕ) → bytes ≡ line_of memory n → AreFilled f checked depth reads memory (n + 1) (slice_set ports (f n).channel (record p { channel = loaded_at p.channel (f n) bytes }))
      one-more bytes value = record {
        count = length-set ports (f n).channel _ ∙ are.count;
        each = λ number port there. elim (set-cases ports (f n).channel (record p { channel = loaded_at p.channel (f n) bytes }) number port there) [
          | inl same ↦
              subst (λ q. IsFilled f checked depth reads memory (n + 1) number q) same.1
              (subst (λ k. IsFilled f checked depth reads memory (n + 1) k (record p { channel = loaded_at p.channel (f n) bytes })) (sym same.0)
              (goes-on n (f n).channel p (are.each (f n).channel p at) (loaded_at p.channel (f n) bytes) (loads f checked (f n).channel depth reads memory map n p.channel is-filling bytes less refl value)))
          | inr other ↦
              let was = are.each number port other.1 in
              goes-on n number port was port.channel (passes f checked number depth reads memory map n port.channel (filling n number port was) (λ here. other.0 (sym here)))
        ];
      }

zero-clock : last_clock [] < 2 ^ 62 + 2 ^ 24
unfolding last_clock
zero-clock = omega arith

-- With all lines of the memory it is a port.
module _ (f : ℕ → Place) (checked : Checked) (number depth reads : ℕ) (memory : List (List ℕ)) (of_map : Geometry) (geometry : of_map ≡ checked.geometry) (map : IsInterleaving of_map f) (n : ℕ) (s : ChannelState)
    (fill : IsFilling f checked number depth reads memory n s) where
  its-checked : s.checked ≡ checked
  its-checked = ap (λ (x : ChannelState). x.checked) fill.fresh

  its-map : IsInterleaving s.checked.geometry f
  its-map = subst (λ g. IsInterleaving g f) (geometry ∙ sym (ap (λ (c : Checked). c.geometry) its-checked)) map

  placed : (line : ℕ) → line < lines_of s.checked.geometry → places_of f s line ≡ f line
  placed line less = place-named f s.checked.geometry line less

  seen-places : IsInterleaving s.checked.geometry (places_of f s)
  seen-places = record {
    lies_in = λ line less. subst (LiesIn s.checked.geometry) (sym (placed line less)) (its-map.lies_in line less);
    apart = λ line other less below same. its-map.apart line other less below (sym (placed line less) ∙ same ∙ placed other below);
    onto = λ place lies. let is = its-map.onto place lies in (is.0, is.1, placed is.0 is.1 ∙ is.2);
  }

  pub begins-right : (lawful : Type 0) → lawful → IsChannel s → IsPort lawful of_map f OnMains s
  begins-right lawful is channel = (
    record { lawful = is; geometry = geometry ∙ sym (ap (λ (c : Checked). c.geometry) its-checked) },
    record {
      channel = channel;
      places = seen-places;
      staged = record {
        mains = λ on. record {
          running = ap (λ (x : ChannelState). x.phase) fill.fresh;
          early = subst (λ (commands : List Stamped). last_clock commands < 2 ^ 62 + 2 ^ 24) (sym (ap (λ (x : ChannelState). x.commands) fill.fresh)) zero-clock;
        };
        backup = λ on. absurd cc;
        lost = λ off. absurd (off refl);
      };
    },
  )

  -- it carries the memory, and no write
  pub begins-carries : length memory ≡ lines_of checked.geometry → length memory ≤ n → Carries (places_of f s) s memory []
  begins-carries lines whole = carried (places_of f s) s memory [] (lines ∙ sym (ap (λ (c : Checked). lines_of c.geometry) its-checked)) (λ i w there. absurd (none i w there))
      (λ line own. ap (λ ws. slice_index_or (after_pending s.array ws) (cell_in s (places_of f s line)) []) empty ∙ stored line own)
      (λ k line waits own. ap (λ ws. slice_index_or (after_pending s.array (filter (λ w. nat_lt w.number k) ws)) (cell_in s (places_of f s line)) []) empty ∙ stored line own)
    where
      empty : s.writes ≡ []
      empty = ap (λ (x : ChannelState). x.writes) fill.fresh

      none : (i : ℕ) (w : PendingWrite) → slice_get s.writes i ≡ Some w → ⊥
      none i w there = let gone : slice_get {X = PendingWrite} [] i ≡ Some w = ap (λ ws. slice_get ws i) (sym empty) ∙ there in cc

      stored : (line : ℕ) → LiesOn (places_of f s) s line → stored_at s (places_of f s line) ≡ line_of memory line
      stored line own =
          let is = placed line own.below in
          let all : lines_of s.checked.geometry ≡ lines_of checked.geometry = ap (λ (c : Checked). lines_of c.geometry) its-checked in
          ap (stored_at s) is ∙ fill.holds line (omega (arith, all, own.below, lines, whole)) (record { below = own.below; here = sym (ap (λ (p : Place). p.channel) is) ∙ own.here })

-- With all lines each port carries the memory.
pub all-begin : (f : ℕ → Place) (checked : Checked) (depth reads : ℕ) (memory : List (List ℕ)) → IsInterleaving checked.geometry f → length memory ≡ lines_of checked.geometry → (n : ℕ) → length memory ≤ n → (ports : List PortState)
    → AreFilled f checked depth reads memory n ports → (number : ℕ) (port : PortState) → slice_get ports number ≡ Some port → BeginsWith f checked memory depth reads number port
all-begin f checked depth reads memory map lines n whole ports are number port there =
    let is = are.each number port there in
    record {
      fresh = is.unused.fresh;
      stage = is.unused.stage;
      places = is.unused.places;
      carries =
          let fill = filling f checked depth reads memory n number port is in
          let same : places_of f port.channel ≡ listed_place port.places = ap (λ (s : ChannelState). listed_place (places_by f s.checked.geometry)) fill.fresh ∙ sym (ap listed_place is.unused.places) in
          subst (λ places. Carries places port.channel memory []) same (begins-carries f checked number depth reads memory checked.geometry refl map n port.channel fill lines whole);
    }
