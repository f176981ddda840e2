-- Rows stay open until a command closes their bank.
use Rattle.std.proofs.Common.{◌≡◌, ℕ, zero, suc, Bool, true, false, cond, ◌&&◌, List, [], ◌∷◌, ◌++◌, Option, Some, None, map, take, refl, sym, ap, subst, eqb, ◌∙◌}
use Rattle.std.specs.Prelude.{◌==◌, IfSome, find, fold}
use Rattle.std.proofs.lemmas.List.{map-append}
use Rattle.std.proofs.lemmas.List.Elements.{filter-append}
use Rattle.std.proofs.lemmas.List.Sums.{fold-append}
use Rattle.std.proofs.lemmas.Bool.{eq-eqb}
use Rattle.ddr4_timing.specs.Command.{is_precharge}
use Rattle.ddr4_timing.specs.Lawful.{open_row, row_after}
use Rattle.ddr4_timing.specs.Places.{is_bank}
use Rattle.ddr4_timing.specs.declared.command.Command.{Command}
use Rattle.ddr4_timing.specs.declared.command.Command.TheVariants.{Act, Rd, Wr, Pre, PreAll, Ref, Sre}
use Rattle.ddr4_timing.specs.declared.command.Stamped.{Stamped}
use Rattle.ddr4_timing.specs.declared.place.BankAddress.{BankAddress}
use Rattle.command_trace.specs.declared.entry.ChannelCommand.{ChannelCommand}
use Rattle.schedule_drawing.specs.declared.lanes.Lane.{Lane}
use Rattle.schedule_drawing.specs.declared.shapes.Shape.{Shape}
use Rattle.schedule_drawing.specs.Drawing.{closes, closes_bank, row_bar}
use Rattle.schedule_drawing.specs.Lanes.{bank_lane}
use Rattle.schedule_drawing.specs.OpenRows.{IsOpenUntil, IsShutBy, ShowsRow, StaysOpen, commands_to, entries_to}

eqb_self : (n : ℕ) → eqb n n ≡ true
eqb_self n = eq-eqb n n refl

commands_to-append : (channel : ℕ) (xs ys : List ChannelCommand)
    → commands_to channel (xs ++ ys) ≡ commands_to channel xs ++ commands_to channel ys
commands_to-append channel xs ys =
    ap (λ (l : List ChannelCommand). map (λ (entry : ChannelCommand). entry.command) l) (filter-append (λ (entry : ChannelCommand). entry.channel == channel) xs ys)
    ∙ map-append (λ (entry : ChannelCommand). entry.command) (entries_to channel xs) (entries_to channel ys)

-- a command that doesn't close a bank leaves its row open
unclosed : (bank : BankAddress) (row : ℕ) (x : Command) → closes_bank bank x ≡ false → row_after bank (Some row) x ≡ Some row
unclosed bank row (Act at new) other = rw other refl
unclosed bank row (Rd at column) other = refl
unclosed bank row (Wr at column) other = refl
unclosed bank row (Pre at) other = rw other refl
unclosed bank row (PreAll rank) other = rw other refl
unclosed bank row (Ref rank) other = refl
unclosed bank row (Sre rank) other = refl

-- a precharge that closes a bank leaves no row open there
closed : (bank : BankAddress) (row : Option ℕ) (x : Command)
    → closes_bank bank x ≡ true → is_precharge x ≡ true → row_after bank row x ≡ None
closed bank row (Act at new) shut precharge = absurd (cc)
closed bank row (Rd at column) shut precharge = absurd (cc)
closed bank row (Wr at column) shut precharge = absurd (cc)
closed bank row (Pre at) shut precharge = rw shut refl
closed bank row (PreAll rank) shut precharge = rw shut refl
closed bank row (Ref rank) shut precharge = absurd (cc)
closed bank row (Sre rank) shut precharge = absurd (cc)

-- the rows of a bank, command by command
row_behind : BankAddress → Option ℕ → List Stamped → Option ℕ
row_behind bank row list = fold (λ r x. row_after bank r x.cmd) row list

-- one command more, by its channel and by whether it closes the bank
stays-step : (channel : ℕ) (bank : BankAddress) (row : ℕ) (x : ChannelCommand) (rest : List ChannelCommand) (here shuts : Bool)
    → (shuts ≡ false → row_after bank (Some row) x.command.cmd ≡ Some row)
    → cond (here && shuts) (Some x) (find (closes channel bank) rest) ≡ None
    → (find (closes channel bank) rest ≡ None → row_behind bank (Some row) (commands_to channel rest) ≡ Some row)
    → row_behind bank (Some row)
    (map (λ entry. entry.command) (cond here (x ∷ entries_to channel rest) (entries_to channel rest)))
    ≡ Some row
unfolding row_behind
stays-step channel bank row x rest true true kept none more = absurd (cc)
stays-step channel bank row x rest true false kept none more =
    ap (λ (r : Option ℕ). row_behind bank r (commands_to channel rest)) (kept refl) ∙ more none
stays-step channel bank row x rest false true kept none more = more none
stays-step channel bank row x rest false false kept none more = more none

stays : (channel : ℕ) (bank : BankAddress) (row : ℕ) (between : List ChannelCommand)
    → find (closes channel bank) between ≡ None → row_behind bank (Some row) (commands_to channel between) ≡ Some row
unfolding row_behind
stays channel bank row [] none = refl
stays channel bank row (x ∷ rest) none =
    stays-step channel bank row x rest (x.channel == channel) (closes_bank bank x.command.cmd) (unclosed bank row x.command.cmd) none
    (stays channel bank row rest)

open_row-append : (bank : BankAddress) (xs ys : List Stamped) → open_row bank (xs ++ ys) ≡ row_behind bank (open_row bank xs) ys
unfolding open_row row_behind
open_row-append bank xs ys = fold-append (λ (r : Option ℕ) (x : Stamped). row_after bank r x.cmd) None xs ys

is_bank-self : (bank : BankAddress) → is_bank bank bank ≡ true
is_bank-self bank = simp eqb_self refl

-- what an ACT of the channel leaves
act-opens : (bank : BankAddress) (row : ℕ) (before : Option ℕ) (x : Command) → x ≡ Act bank row → row_after bank before x ≡ Some row
act-opens bank row before x is = subst (λ (y : Command). row_after bank before y ≡ Some row) (sym is) (rw is_bank-self refl)

act-first : (channel : ℕ) (bank : BankAddress) (row : ℕ) (before : Option ℕ) (act : ChannelCommand) (between : List ChannelCommand)
    → act.channel ≡ channel → act.command.cmd ≡ Act bank row
    → row_behind bank before (commands_to channel (act ∷ between)) ≡ row_behind bank (Some row) (commands_to channel between)
unfolding row_behind
act-first channel bank row before act between here is =
    let own : (act.channel == channel) ≡ true = rw here (simp eqb_self refl) in
    let opened : row_after bank before act.command.cmd ≡ Some row = act-opens bank row before act.command.cmd is in
    rw own (ap (λ (r : Option ℕ). row_behind bank r (commands_to channel between)) opened)

-- none of a front closes it, where none of all does
front-step : (b : Bool) (x : ChannelCommand) (rest front : Option ChannelCommand) → (rest ≡ None → front ≡ None)
    → cond b (Some x) rest ≡ None → cond b (Some x) front ≡ None
front-step true x rest front more none = absurd (cc)
front-step false x rest front more none = more none

find-front : (p : ChannelCommand → Bool) (xs : List ChannelCommand) (n : ℕ) → find p xs ≡ None → find p (take n xs) ≡ None
find-front p xs zero none = refl
find-front p [] (suc n) none = refl
find-front p (x ∷ xs) (suc n) none = front-step (p x) x (find p xs) (find p (take n xs)) (find-front p xs n) none

stays-open : (channel : ℕ) (bank : BankAddress) (between : List ChannelCommand)
    → find (closes channel bank) between ≡ None → StaysOpen channel bank between
stays-open channel bank between none = λ n row before act here is.
    ap (λ (l : List Stamped). open_row bank l) (commands_to-append channel before (act ∷ take n between))
    ∙ open_row-append bank (commands_to channel before) (commands_to channel (act ∷ take n between))
    ∙ act-first channel bank row (open_row bank (commands_to channel before)) act (take n between) here is
    ∙ stays channel bank row (take n between) (find-front (closes channel bank) between n none)

-- what stands before the first that passes, and behind it
Parts : (ChannelCommand → Bool) → List ChannelCommand → ChannelCommand → Type 0
Parts p xs close =
    (between : List ChannelCommand) × (after : List ChannelCommand) × (xs ≡ between ++ close ∷ after) × (find p between ≡ None) × (p close ≡ true)

parts-later : (p : ChannelCommand → Bool) (x : ChannelCommand) (xs : List ChannelCommand) (close : ChannelCommand) → p x ≡ false → Parts p xs close → Parts p (x ∷ xs) close
unfolding Parts
parts-later p x xs close fails (between, after, is, none, passes) =
    (x ∷ between, after, ap (λ l. x ∷ l) is, rw fails none, passes)

parts-step : (p : ChannelCommand → Bool) (x : ChannelCommand) (xs : List ChannelCommand) (close : ChannelCommand) (b : Bool) → p x ≡ b
    → cond b (Some x) (find p xs) ≡ Some close → (find p xs ≡ Some close → Parts p xs close) → Parts p (x ∷ xs) close
unfolding Parts
parts-step p x xs close true passes found more =
    let same : x ≡ close = cc in
    ([], xs, ap (λ y. y ∷ xs) same, refl, subst (λ y. p y ≡ true) same passes)
parts-step p x xs close false fails found more = parts-later p x xs close fails (more found)

find-parts : (p : ChannelCommand → Bool) (xs : List ChannelCommand) (close : ChannelCommand) → find p xs ≡ Some close → Parts p xs close
find-parts p [] close found = absurd (cc)
find-parts p (x ∷ xs) close found = parts-step p x xs close (p x) refl found (find-parts p xs close)

until-parts : (channel : ℕ) (bank : BankAddress) (behind : List ChannelCommand) (close : ChannelCommand)
    → Parts (closes channel bank) behind close → IsOpenUntil channel bank behind (Some close)
unfolding Parts
until-parts channel bank behind close (between, after, is, none, passes) = (between, after, is, stays-open channel bank between none)

open-until : (channel : ℕ) (bank : BankAddress) (behind : List ChannelCommand) (close : Option ChannelCommand)
    → close ≡ find (closes channel bank) behind → IsOpenUntil channel bank behind close
open-until channel bank behind None is = stays-open channel bank behind (sym is)
open-until channel bank behind (Some close) is =
    until-parts channel bank behind close (find-parts (closes channel bank) behind close (sym is))

-- both of two tests that hold together
both-left : (a b : Bool) → (a && b) ≡ true → a ≡ true
both-left true b both = refl
both-left false b both = both

both-right : (a b : Bool) → (a && b) ≡ true → b ≡ true
both-right true b both = both
both-right false b both = absurd (cc)

close-last : (channel : ℕ) (bank : BankAddress) (before : Option ℕ) (close : ChannelCommand)
    → (close.channel == channel) ≡ true → closes_bank bank close.command.cmd ≡ true → is_precharge close.command.cmd ≡ true
    → row_behind bank before (commands_to channel (close ∷ [])) ≡ None
unfolding row_behind
close-last channel bank before close here shut precharge =
    let none : row_after bank before close.command.cmd ≡ None = closed bank before close.command.cmd shut precharge in
    rw here none

shut-by : (channel : ℕ) (bank : BankAddress) (close : ChannelCommand) → closes channel bank close ≡ true → IsShutBy channel bank close
shut-by channel bank close shut = λ precharge before.
    ap (λ (l : List Stamped). open_row bank l) (commands_to-append channel before (close ∷ []))
    ∙ open_row-append bank (commands_to channel before) (commands_to channel (close ∷ []))
    ∙ close-last channel bank (open_row bank (commands_to channel before)) close
    (both-left (close.channel == channel) (closes_bank bank close.command.cmd) shut)
    (both-right (close.channel == channel) (closes_bank bank close.command.cmd) shut)
    precharge

shut-parts : (channel : ℕ) (bank : BankAddress) (behind : List ChannelCommand) (close : ChannelCommand)
    → Parts (closes channel bank) behind close → IsShutBy channel bank close
unfolding Parts
shut-parts channel bank behind close (between, after, is, none, passes) = shut-by channel bank close passes

shut-until : (channel : ℕ) (bank : BankAddress) (behind : List ChannelCommand) (close : Option ChannelCommand)
    → close ≡ find (closes channel bank) behind → IfSome close (λ c. IsShutBy channel bank c)
shut-until channel bank behind None is = tt
shut-until channel bank behind (Some close) is =
    shut-parts channel bank behind close (find-parts (closes channel bank) behind close (sym is))

pub shows_row : (channel : ℕ) (bank : BankAddress) (row from end : ℕ) (behind : List ChannelCommand) (lane : Lane) (close : Option ChannelCommand) (bar : Shape)
    → lane ≡ bank_lane channel bank → close ≡ find (closes channel bank) behind → bar ≡ row_bar lane row from end close
    → ShowsRow channel bank row from end behind bar
shows_row channel bank row from end behind lane close bar lane_is close_is bar_is = record {
  close = close;
  bar_is = bar_is ∙ ap (λ l. row_bar l row from end close) lane_is;
  stays = open-until channel bank behind close close_is;
  shut = shut-until channel bank behind close close_is;
}
