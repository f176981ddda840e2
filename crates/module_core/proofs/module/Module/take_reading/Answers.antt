use Rattle.nv_machine.specs.Moves.{disarming, sensed}
use Rattle.module_core.proofs.Common.{if◌then◌else◌, ◌∙◌, ◌≡◌, Bool, Machine, Matches, Setup, ap, false, inl, is_low, read_as, refl, setup_of, sym, true}
use Rattle.module_core.proofs.Applying.{reread}
use Rattle.module_core.proofs.module.Module.take_reading.Goals as goal

pub returns-then-not-is_low-clause-step : goal.returns-then-not-is_low-clause-step
returns-then-not-is_low-clause-step g c = λ m h.
    let L = g.K.ChannelPort in let setup : Setup = setup_of L c.args.self.now in let read : Machine = read_as c.args.reading m in
    let h' : Matches L _ read = reread L c.args.self.now _ m h (record { numbers = record { terms = refl; accepted = refl; persisted = refl }; mode = refl; saves = refl; shape = refl }) refl in
    let low : is_low setup read ≡ false = sym (c.is_low.ensures.low read h') ∙ (let e : c.is_low.result ≡ false = cc in e) in
    record { later = read; step = (low, ap (λ (b : Bool). if b then disarming read else read) (sym low)); matches = h'; moves = inl (refl, refl) }

pub returns-clause-step : goal.returns-clause-step
returns-clause-step g c = λ m h.
    let L = g.K.ChannelPort in let setup : Setup = setup_of L c.args.self.now in let read : Machine = read_as c.args.reading m in
    let h' : Matches L _ read = reread L c.args.self.now _ m h (record { numbers = record { terms = refl; accepted = refl; persisted = refl }; mode = refl; saves = refl; shape = refl }) refl in
    let low : is_low setup read ≡ true = sym (c.is_low.ensures.low read h') ∙ (let e : c.is_low.result ≡ true = cc in e) in
    let same : disarming read ≡ sensed setup read = ap (λ (b : Bool). if b then disarming read else read) (sym low) in
    let d = c.begin_disarming.ensures.step read h' in
    record { later = d.later; step = (low, d.step ∙ same); matches = d.matches; moves = d.moves }
