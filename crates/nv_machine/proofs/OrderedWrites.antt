-- Writes wait channel by channel, and in each the oldest first.
use Rattle.std.specs.Prelude.{AllPairs, MatchBool, insert, nat_le}
use Rattle.std.proofs.Common.{cond, drop}
use Rattle.std.proofs.lemmas.Bool.{cases_order, leb-false, leb-true, lt-leb}
use Rattle.std.proofs.lemmas.List.Elements.{All-append, All-drop, All-take, All-weaker}
use Rattle.std.proofs.lemmas.List.Kept.{AllPairs-cons}
use Rattle.std.proofs.lemmas.List.Quantifiers.{all_pairs_remove}
use Rattle.std.proofs.lemmas.List.Sums.{sum_by-cons}
use Rattle.std.proofs.lemmas.Option.{get_or_from_slice_get, same_Some}
use Rattle.arm_state.specs.declared.refusal.ArmRefusal.{ArmRefusal}
use Rattle.arm_state.specs.declared.refusal.ArmReply.{ArmReply}
use Rattle.arm_state.specs.declared.refusal.DisarmReply.{DisarmReply}
use Rattle.channel_port.specs.Answers.{IsGot, IsServed}
use Rattle.channel_port.specs.Waits.{AllBelow, Goes, Has, is_write_up_to, waiting, writes_up_to}
use Rattle.channel_port.specs.declared.answers.Got.{Got}
use Rattle.channel_port.specs.declared.answers.Served.{Served}
use Rattle.channel_port.specs.declared.waiting.Waiting.{Waiting}
use Rattle.nv_machine.specs.Headline.{paused}
use Rattle.nv_machine.specs.Machine.{SenseStep}
use Rattle.nv_machine.specs.Moves.{sensed}
use Rattle.nv_machine.specs.WaitingOrder.{WaitInOrder, GoesBefore, IsInOrder}
use Rattle.nv_machine.specs.declared.events.StepReply.{StepReply}
use Rattle.nv_machine.proofs.Common.{All, All-cons, All-nil, Bool, DrainOrder, EndsDark, Err, Event, GaugeCall, List, LoseStep, Loss, Machine, MachineStep, None, Ok, Option, ReadsLevel, Reply, Run, Setup, Some, Waits, World, [], all_of, ap, arith, disarming, false, if◌then◌else◌, inl, inr, is_low, length, length-append, read_as, reads_gauge, refl, slice_get_within, subst, suc, sym, take, true, zero, ℕ, ◌++◌, ◌+◌, ◌<◌, ◌∙◌, ◌∷◌, ◌≡◌, ◌≤◌}
use Rattle.nv_machine.proofs.Effects.{collected_writes}

-- the first of a list and each later one, and the later ones among themselves
head_pairs : (w : Waiting) (ws : List Waiting) → AllPairs GoesBefore (w ∷ ws) → All (GoesBefore w) ws
head_pairs w ws pairs k d less = pairs zero (suc k) d (omega arith) (omega (arith, less))

tail_pairs : (w : Waiting) (ws : List Waiting) → AllPairs GoesBefore (w ∷ ws) → AllPairs GoesBefore ws
tail_pairs w ws pairs i j d below within = pairs (suc i) (suc j) d (omega (arith, below)) (omega (arith, within))

no_pairs : AllPairs GoesBefore []
no_pairs i j d below within = absurd (omega (arith, within))

-- what holds of each holds of one
all_at : (P : Waiting → Type 0) (ws : List Waiting) (w : Waiting) → All P ws → Has w ws → P w
all_at P ws w all (k, at) = subst P (get_or_from_slice_get ws k w w at) (all k w (slice_get_within ws k w at))

abbrev one_if : Bool → ℕ
one_if b = cond b 1 0

-- where all are those of later channels, none is one of this channel or of one before it
none_up_to : (channel : ℕ) (ws : List Waiting) → All (λ w. channel < w.channel) ws → writes_up_to channel ws ≡ 0
none_up_to channel [] later = refl
none_up_to channel (w ∷ ws) later =
    let first : writes_up_to channel (w ∷ ws) ≡ one_if (is_write_up_to channel w) + writes_up_to channel ws = sum_by-cons (λ v. cond (is_write_up_to channel v) 1 0) w ws in
    let off : one_if (is_write_up_to channel w) ≡ 0 = ap one_if (lt-leb w.channel channel (later zero w (omega arith))) in
    omega (arith, first, off, none_up_to channel ws (λ k d less. later (suc k) d (omega (arith, less))))

-- a write of the next number, put where a first write stands in front of others
module _ (all channel : ℕ) (w : Waiting) (ws : List Waiting) (pairs : AllPairs GoesBefore (w ∷ ws)) (below : AllBelow all (w ∷ ws)) where
  abbrev v : Waiting
  v = waiting all channel

  counted : writes_up_to channel (w ∷ ws) ≡ one_if (is_write_up_to channel w) + writes_up_to channel ws
  counted = sum_by-cons (λ u. cond (is_write_up_to channel u) 1 0) w ws

  head : All (GoesBefore w) ws
  head = head_pairs w ws pairs

  behind : w.channel ≤ channel → GoesBefore w v
  behind most =
      let older : w.number < all = below zero w (omega arith) in
      elim (cases_order w.channel channel) [
        | inl same ↦ inr (same, older)
        | inr (inl less) ↦ inl less
        | inr (inr more) ↦ absurd (omega (arith, most, more))
      ]

  after_head : (k : ℕ) → w.channel ≤ channel → AllPairs GoesBefore (insert ws k v) → AllPairs GoesBefore (w ∷ insert ws k v)
  after_head k most rest =
      AllPairs-cons GoesBefore w (insert ws k v)
      (All-append (GoesBefore w) (take k ws) (v ∷ drop k ws) (All-take (GoesBefore w) k ws head) (All-cons (GoesBefore w) v (drop k ws) (behind most) (All-drop (GoesBefore w) k ws head)))
      rest

  beyond : (u : Waiting) → channel < w.channel → GoesBefore w u → channel < u.channel
  beyond u past (inl less) = omega (arith, past, less)
  beyond u past (inr same) = omega (arith, past, same.0)

  all_beyond : channel < w.channel → All (λ u. channel < u.channel) ws
  all_beyond past = All-weaker (GoesBefore w) (λ u. channel < u.channel) (λ u before. beyond u past before) ws head

  before_head : channel < w.channel → AllPairs GoesBefore (v ∷ w ∷ ws)
  before_head past =
      AllPairs-cons GoesBefore v (w ∷ ws) (All-weaker (λ u. channel < u.channel) (GoesBefore v) (λ u less. inl less) (w ∷ ws) (All-cons (λ u. channel < u.channel) w ws past (all_beyond past)))
      pairs

  put_by : (b : Bool) → nat_le w.channel channel ≡ b → AllPairs GoesBefore (insert ws (writes_up_to channel ws) v) → AllPairs GoesBefore (insert (w ∷ ws) (writes_up_to channel (w ∷ ws)) v)
  put_by true is rest =
      let one : one_if (is_write_up_to channel w) ≡ 1 = ap one_if is in
      let place : suc (writes_up_to channel ws) ≡ writes_up_to channel (w ∷ ws) = omega (arith, counted, one) in
      subst (λ n. AllPairs GoesBefore (insert (w ∷ ws) n v)) place (after_head (writes_up_to channel ws) (leb-true w.channel channel is) rest)
  put_by false is rest =
      let past : channel < w.channel = leb-false w.channel channel is in
      let off : one_if (is_write_up_to channel w) ≡ 0 = ap one_if is in
      let place : zero ≡ writes_up_to channel (w ∷ ws) = omega (arith, counted, off, none_up_to channel ws (all_beyond past)) in
      subst (λ n. AllPairs GoesBefore (insert (w ∷ ws) n v)) place (before_head past)

-- A write of the next number stands in order behind those of its channel and of the channels before it.
put_pairs : (all channel : ℕ) (ws : List Waiting) → AllPairs GoesBefore ws → AllBelow all ws → AllPairs GoesBefore (insert ws (writes_up_to channel ws) (waiting all channel))
put_pairs all channel [] pairs below = AllPairs-cons GoesBefore (waiting all channel) [] (All-nil _) no_pairs
put_pairs all channel (w ∷ ws) pairs below =
    put_by all channel w ws pairs below (nat_le w.channel channel) refl (put_pairs all channel ws (tail_pairs w ws pairs) (λ j d less. below (suc j) d (omega (arith, less))))

put_below : (all channel k : ℕ) (ws : List Waiting) → AllBelow all ws → AllBelow (all + 1) (insert ws k (waiting all channel))
put_below all channel k ws below =
    let P : Waiting → Type 0 = λ w. w.number < all + 1 in
    let more : All P ws = All-weaker (λ w. w.number < all) P (λ w less. omega (arith, less)) ws below in
    All-append P (take k ws) (waiting all channel ∷ drop k ws) (All-take P k ws more) (All-cons P (waiting all channel) (drop k ws) (omega arith) (All-drop P k ws more))

drop_pairs : (n : ℕ) (ws : List Waiting) → AllPairs GoesBefore ws → AllPairs GoesBefore (drop n ws)
drop_pairs zero ws pairs = pairs
drop_pairs (suc n) [] pairs = pairs
drop_pairs (suc n) (w ∷ ws) pairs = drop_pairs n ws (tail_pairs w ws pairs)

-- in order still: where one more is put, one goes, or the first ones go
put_order : (all channel : ℕ) (ws : List Waiting) → WaitInOrder all ws → WaitInOrder (all + 1) (insert ws (writes_up_to channel ws) (waiting all channel))
put_order all channel ws o = record { order = put_pairs all channel ws o.order o.below; below = put_below all channel (writes_up_to channel ws) ws o.below }

gone_order : (all : ℕ) (w : Waiting) (old new : List Waiting) → Goes w old new → WaitInOrder all old → WaitInOrder all new
gone_order all w old new (place, stands, is) o =
    let P : Waiting → Type 0 = λ v. v.number < all in
    subst (WaitInOrder all) (sym is) (record {
      order = all_pairs_remove GoesBefore old place (slice_get_within old place w stands) o.order;
      below = All-append P (take place old) (drop (suc place) old) (All-take P place old o.below) (All-drop P (suc place) old o.below);
    })

drop_order : (all n : ℕ) (ws : List Waiting) → WaitInOrder all ws → WaitInOrder all (drop n ws)
drop_order all n ws o = record { order = drop_pairs n ws o.order; below = All-drop (λ w. w.number < all) n ws o.below }

pub none_order : (all : ℕ) → WaitInOrder all []
none_order all = record { order = no_pairs; below = All-nil _ }

has_dropped : (n : ℕ) (ws : List Waiting) (w : Waiting) → Has w (drop n ws) → Has w ws
has_dropped zero ws w has = has
has_dropped (suc n) [] w has = has
has_dropped (suc n) (v ∷ ws) w has = let (k, at) = has_dropped n ws w has in (suc k, at)

-- the first ones went before all that are left
first_gone : (n : ℕ) (ws : List Waiting) (gone left : Waiting) → AllPairs GoesBefore ws → Has gone ws → (Has gone (drop n ws) → ⊥) → Has left (drop n ws) → GoesBefore gone left
first_gone zero ws gone left pairs had lacks has = absurd (lacks had)
first_gone (suc n) [] gone left pairs (k, at) lacks has = absurd cc
first_gone (suc n) (w ∷ ws) gone left pairs (zero, at) lacks has =
    subst (λ v. GoesBefore v left) (same_Some w gone at) (all_at (GoesBefore w) ws left (head_pairs w ws pairs) (has_dropped n ws left has))
first_gone (suc n) (w ∷ ws) gone left pairs (suc k, at) lacks has = first_gone n ws gone left (tail_pairs w ws pairs) (k, at) lacks has

pub dark_order : (order : DrainOrder) (setup : Setup) (old new : World) (gone left : Waiting) → EndsDark order setup old new → IsInOrder old.machine → Has gone old.machine.waits.writes → (Has gone new.machine.waits.writes → ⊥) → Has left new.machine.waits.writes
    → GoesBefore gone left
dark_order order setup old new gone left done o had lacks has =
    first_gone _ old.machine.waits.writes gone left o.order had (λ again. lacks (subst (Has gone) (sym done.left) again)) (subst (Has left) done.left has)

-- of reads nothing changes
got_writes : (bytes : List ℕ) (line at channel : ℕ) (got : Got) (old new : Waits) → IsGot bytes line at channel got old new → new.writes ≡ old.writes
got_writes bytes line at channel (Got.Now given) old new is = ap (λ (w : Waits). w.writes) is.1
got_writes bytes line at channel (Got.Later ticket) old new is = is.3

served_order : (all : ℕ) (hold : Option ℕ) (channel : ℕ) (s : Option Served) (old new : Waits) → IsServed hold channel s old new → WaitInOrder all old.writes → WaitInOrder all new.writes
served_order all hold channel None old new is o = subst (λ (w : Waits). WaitInOrder all w.writes) (sym is) o
served_order all hold channel (Some (Served.Write number)) old new is o = gone_order all (waiting number channel) old.writes new.writes is.goes o
served_order all hold channel (Some (Served.Read ticket)) old new is o = subst (WaitInOrder all) (sym is.writes) o

module _ (setup : Setup) (old new : World) (o : IsInOrder old.machine) where
  abbrev m : Machine
  m = old.machine

  moved : (n : Machine) → new.machine ≡ n → IsInOrder n → IsInOrder new.machine
  moved n is order = subst IsInOrder (sym is) order

  world_moved : (w : World) → new ≡ w → IsInOrder w.machine → IsInOrder new.machine
  world_moved w is order = subst (λ (x : World). IsInOrder x.machine) (sym is) order

  -- as many writes were accepted, and these wait
  so_many : all_of new.machine ≡ all_of m → WaitInOrder (all_of m) new.machine.waits.writes → IsInOrder new.machine
  so_many same order = subst (λ n. WaitInOrder n new.machine.waits.writes) (sym same) order

  accepts_order : (channel : ℕ) → all_of new.machine ≡ all_of m + 1 → new.machine.waits.writes ≡ insert m.waits.writes (writes_up_to channel m.waits.writes) (waiting (all_of m) channel) → IsInOrder new.machine
  accepts_order channel more joins =
      subst (λ n. WaitInOrder n new.machine.waits.writes) (sym more) (subst (WaitInOrder (all_of m + 1)) (sym joins) (put_order (all_of m) channel m.waits.writes o))

  sensed_order : (level : ℕ) → SenseStep setup level m old.gauge new.machine new.gauge → IsInOrder new.machine
  sensed_order level done = by_mode (reads_gauge m.mode) done
    where
      low : (b : Bool) → IsInOrder (if b then disarming (read_as level m) else read_as level m)
      low true = o
      low false = o

      by_mode : (b : Bool) → MatchBool b (ReadsLevel GaugeCall.Sense old.gauge level new.gauge × (new.machine ≡ sensed setup (read_as level m))) ((level ≡ m.reading) × (new.machine ≡ m) × (new.gauge ≡ old.gauge)) → IsInOrder new.machine
      by_mode true done = moved (sensed setup (read_as level m)) done.1 (low (is_low setup (read_as level m)))
      by_mode false done = moved m done.1 o

  lost_order : (order : DrainOrder) (loss : Loss) → LoseStep order setup loss old new → IsInOrder new.machine
  lost_order order Loss.Closed done = world_moved old done.1 o
  lost_order order Loss.Unsaved done = world_moved _ done.1 o
  lost_order order (Loss.Saved generation count) done = so_many (ap all_of done.closes.rest) (subst (λ (w : Waits). WaitInOrder (all_of m) w.writes) (sym done.drained) (none_order (all_of m)))
  lost_order order Loss.Dark done = so_many (ap all_of done.closes.rest) (subst (WaitInOrder (all_of m)) (sym done.left) (drop_order (all_of m) _ m.waits.writes o))
  lost_order order Loss.Fault done = so_many (ap all_of done.closes.rest) (subst (λ (w : Waits). WaitInOrder (all_of m) w.writes) (sym done.drained) (none_order (all_of m)))

  event_order : (event : Event) (reply : Reply) → MachineStep setup event reply old new → IsInOrder new.machine
  event_order (Event.Write write) (Reply.Write (Ok accepted)) done =
      let size : length (m.life.writes ++ write ∷ []) ≡ length m.life.writes + 1 = length-append m.life.writes (write ∷ []) in
      let more : all_of new.machine ≡ all_of m + 1 = ap all_of done.1.1.is ∙ omega (arith, size) in
      accepts_order _ more done.1.1.puts.joins
  event_order (Event.Write write) (Reply.Write (Err refusal)) done = moved m done.1.1 o
  event_order (Event.Read line) (Reply.Read (Ok got)) done = so_many (ap all_of done.1.2) (subst (WaitInOrder (all_of m)) (sym (got_writes _ _ _ _ got m.waits new.machine.waits done.1.1)) o)
  event_order (Event.Read line) (Reply.Read (Err refusal)) done = moved m done.1.1 o
  event_order (Event.Collect ticket) (Reply.Collect collected) done =
      so_many (ap all_of done.1.1) (subst (WaitInOrder (all_of m)) (sym (collected_writes ticket collected m.waits new.machine.waits done.1.0)) o)
  event_order (Event.Work channel) (Reply.Work None) done = moved m done.1 o
  event_order (Event.Work channel) (Reply.Work (Some work)) done = so_many (ap all_of done.1.2) (served_order (all_of m) _ channel work.served m.waits new.machine.waits done.1.1 o)
  event_order Event.Sense (Reply.Sense level) done = sensed_order level done.1
  event_order Event.Arm (Reply.Arm (Ok ArmReply.AlreadyArmed)) done = world_moved old done.1 o
  event_order Event.Arm (Reply.Arm (Ok ArmReply.Armed)) done = moved _ done.2 o
  event_order Event.Arm (Reply.Arm (Err ArmRefusal.Device)) done = moved _ done.2 o
  event_order Event.Arm (Reply.Arm (Err (ArmRefusal.NeedEnergy need has))) done = world_moved _ done.is o
  event_order Event.Arm (Reply.Arm (Err refusal)) done = world_moved old done.2 o
  event_order Event.Disarm (Reply.Disarm (Ok DisarmReply.AlreadyDisarmed)) done = moved m done.1.1 o
  event_order Event.Disarm (Reply.Disarm (Ok DisarmReply.Disarming)) done = moved _ done.1.1 o
  event_order Event.Disarm (Reply.Disarm (Err refusal)) done = moved m done.1.1 o
  event_order Event.SaveBegin (Reply.SaveBegin (Ok begins)) done = moved _ done.1.1 o
  event_order Event.SaveBegin (Reply.SaveBegin (Err refusal)) done = moved m done.1.1 o
  event_order Event.SaveStep (Reply.SaveStep StepReply.NoSave) done = world_moved old done.1 o
  event_order Event.SaveStep (Reply.SaveStep StepReply.Waiting) done = world_moved old done.3 o
  event_order Event.SaveStep (Reply.SaveStep StepReply.Turned) done = world_moved _ done.5 o
  event_order Event.SaveStep (Reply.SaveStep (StepReply.Did made)) done = moved _ done.6.2 o
  event_order Event.SaveStep (Reply.SaveStep (StepReply.Saved generation count)) done = moved _ done.6.3 o
  event_order Event.SaveStep (Reply.SaveStep StepReply.Retry) done = moved _ done.6.1 o
  event_order Event.SaveStep (Reply.SaveStep StepReply.Fault) done = moved _ done.6.1 o
  event_order Event.Lose (Reply.Lose loss) done = lost_order done.0 loss done.1
  event_order event reply none = absurd none

module _ (setup : Setup) where
  pub run_order : (events : List Event) (replies : List Reply) (old new : World) → Run setup events replies old new → IsInOrder old.machine → IsInOrder new.machine
  run_order [] [] old new run o = subst (λ (w : World). IsInOrder w.machine) (sym run.is) o
  run_order (event ∷ events) (reply ∷ replies) old new run o =
      run_order events replies run.0 new run.2 (event_order setup (paused run.1.pause old) run.0 o event reply run.1.happens.step)
  run_order _ _ old new none o = absurd none
