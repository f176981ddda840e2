use Rattle.std.proofs.Common.{◌∙◌, ℕ, List, false, Ok, Err, inr, refl, rules, sym, subst}
use Rattle.std.proofs.lemmas.Grind.{merely}
use Rattle.nv_session.proofs.Common.{DeviceState, Revives, assembly, device_state, life_begins, lines_of}
use Rattle.nv_session.proofs.Common.{meter_gauge}
use Rattle.slot_store.specs.declared.restoring.Restored.{Restored}
use Rattle.slot_store.specs.Told.{CallsOfRestore}
use Rattle.nv_session.specs.Faults.{HadOneRestore}
use Rattle.nv_session.specs.Sessions.{restored_in}
use Rattle.nv_session.proofs.Beginning.{FindsRestored, is_capacity, revives_restored}
use Rattle.nv_session.proofs.Faults.{counts_alike, refused_calls, restore_counts}
use Rattle.nv_session.proofs.session.Session.revive.Goals as goal
use Rattle.nv_session.proofs.session.Session.revive.Goals.{In-Ok}

pub restore-requires : goal.restore-requires
restore-requires g c = let it = c.args.self.now in is_capacity it.profile (g.A.Wires.shape it.wires it.profile.map) c.lines-lines.result (it.fits it.profile.map) c.lines-lines.ensures.is

-- the life that was opened is one with the newest image
revived : (g : _) (c : In-Ok g)
    → Revives g.K.ChannelPort (restored_in c.args.self.now)
    c.in_ok-restored.restored.head c.in-Ok.life (device_state c.restore.new.device)
revived g c =
    let it : Restored = c.in_ok-restored.restored in
    let lines : ℕ = lines_of c.args.self.now.profile.checked.geometry in let bytes : List ℕ = (device_state c.args.self.now.device).bytes in let device : DeviceState = device_state c.restore.new.device in
    let finds : FindsRestored c.lines-lines.result it bytes device = record { restored_is = c.in_ok-restored.ensures.found; rests = c.in_ok-restored.ensures.at_rest } in
    revives_restored g.K.ChannelPort lines it bytes c.in-Ok.life device (subst (λ (n : ℕ). FindsRestored n it bytes device) c.lines-lines.ensures.is finds) c.in-Ok.ensures.begins

pub begin-requires-clause-cut : goal.begin-requires-clause-cut
begin-requires-clause-cut g c = let r = revived g (goal.at.begin-requires-clause-cut g c).In-Ok in r.stands.matches.front.cut ∙ sym r.stands.saved

pub begin-requires-clause-lives : goal.begin-requires-clause-lives
begin-requires-clause-lives g c =
    let r = revived g (goal.at.begin-requires-clause-lives g c).In-Ok in
    merely (life_begins g.K.ChannelPort c.in_ok-restored.restored.head r.image (assembly c.in-Ok.life (device_state c.restore.new.device) (meter_gauge c.args.self.now.gauge)) r.stands)

pub returns-clause-revives : goal.returns-clause-revives
returns-clause-revives g c =
    record {
      it = c.in-Ok.life;
      runs = c.begin.ensures.life;
      over = c.in-Ok.ensures.setup;
      holds = subst (λ (d : DeviceState). Revives g.K.ChannelPort (restored_in c.args.self.now) c.in_ok-restored.restored.head c.in-Ok.life d) (sym c.begin.ensures.device) (revived g (goal.at.returns-clause-revives g c).In-Ok);
    }

pub returns-clause-faults : goal.returns-clause-faults
returns-clause-faults g c =
    let old = device_state c.args.self.now.device in let read = device_state c.restore.new.device in
    counts_alike false old read (device_state c.begin.new.self.device) c.begin.ensures.device (restore_counts c.lines-lines.result (Ok c.in_ok-restored.restored) old read c.in_ok-restored.ensures.calls)

pub returns-in_default-clause-faults : goal.returns-in_default-clause-faults
returns-in_default-clause-faults g c =
    restore_counts c.lines-lines.result (Ok c.in_ok-restored.restored) (device_state c.args.self.now.device) (device_state c.restore.new.device) c.in_ok-restored.ensures.calls

pub returns-in_err-restored-clause-faults : goal.returns-in_err-restored-clause-faults
returns-in_err-restored-clause-faults g c =
    let counts = restore_counts c.lines-lines.result (Err c.in_err-restored.field-0.0) (device_state c.args.self.now.device) (device_state c.restore.new.device) c.in_err-restored.ensures.calls in
    search (rules, counts)

pub returns-clause-issued : goal.returns-clause-issued
returns-clause-issued g c = record { it = c.in-Ok.life; runs = c.begin.ensures.life; checked_is = c.in-Ok.ensures.checked; none = c.in-Ok.ensures.issued }

pub returns-clause-calls : goal.returns-clause-calls
returns-clause-calls g c =
    let old = device_state c.args.self.now.device in let read = device_state c.restore.new.device in let it : Restored = c.in_ok-restored.restored in
    let lines : ℕ = lines_of c.args.self.now.profile.checked.geometry in
    subst (λ (d : DeviceState). HadOneRestore lines (Ok it.head) old d) (sym c.begin.ensures.device)
    (it, refl, subst (λ (n : ℕ). CallsOfRestore n (Ok it) old read) c.lines-lines.ensures.is c.in_ok-restored.ensures.calls)

pub returns-in_default-clause-calls : goal.returns-in_default-clause-calls
returns-in_default-clause-calls g c =
    let old = device_state c.args.self.now.device in let read = device_state c.restore.new.device in let it : Restored = c.in_ok-restored.restored in
    inr (it, subst (λ (n : ℕ). CallsOfRestore n (Ok it) old read) c.lines-lines.ensures.is c.in_ok-restored.ensures.calls)

pub returns-in_err-restored-clause-calls : goal.returns-in_err-restored-clause-calls
returns-in_err-restored-clause-calls g c =
    let old = device_state c.args.self.now.device in let read = device_state c.restore.new.device in let error = c.in_err-restored.field-0.0 in
    let calls = refused_calls (lines_of c.args.self.now.profile.checked.geometry) error old read
    (subst (λ (n : ℕ). CallsOfRestore n (Err error) old read) c.lines-lines.ensures.is c.in_err-restored.ensures.calls) in
    search (rules, calls)
