use Rattle.std.proofs.Common.{◌≡◌, ◌∙◌, ℕ, refl, subst, sym}
use Rattle.nv_session.specs.Sessions.{moment_in}
use Rattle.nv_session.proofs.Common.{Assembly, Comes, MakesSave, Setup, assembly, device_state, meter_gauge, session_at, setup_of}
use Rattle.slot_store.specs.Slots.{HasSize}
use Rattle.nv_session.proofs.Cutting.{comes_cut, now_cut, save_cut}
use Rattle.nv_session.proofs.Going.{goes_on_by, lives_on}
use Rattle.nv_session.proofs.session.Session.save.Goals as goal

pub returns-in-Some-clause-comes : goal.returns-in-Some-clause-comes
returns-in-Some-clause-comes g c =
    let L = g.K.ChannelPort in let it = c.args.self.now in let life = c.cut-cut_by_save.new.self in
    let old : Assembly L = assembly c.in-Some.life (device_state it.device) (meter_gauge it.gauge) in
    let mid : Assembly L = assembly c.save-made.new.running (device_state c.save-made.new.device) (meter_gauge c.save-made.new.energy) in
    let channels : it.profile.checked.geometry.channels ≡ (setup_of L old.it).shape.channels = sym (it.living.fits old.it c.in-Some.is).channels in
    goes_on_by L (λ setup. MakesSave setup.shape.channels c.save-made.result) (moment_in it) (session_at _ mid.device mid.gauge) old.it life c.in-Some.is refl
    (subst (λ (n : ℕ). Comes L (MakesSave n c.save-made.result) old (assembly life mid.device mid.gauge)) channels
    (comes_cut L (MakesSave it.profile.checked.geometry.channels c.save-made.result) old mid life (save_cut it.profile.checked.geometry.channels c.save-made.result) c.save-made.ensures.setup c.save-made.ensures.comes c.cut-cut_by_save.ensures.cuts))
    (c.cut-cut_by_save.ensures.setup ∙ c.save-made.ensures.setup)

pub invariant_of-self-clause-living : goal.invariant_of-self-clause-living
invariant_of-self-clause-living g c =
    let L = g.K.ChannelPort in let it = c.args.self.now in let life = c.cut-cut_by_save.new.self in
    let old : Assembly L = assembly c.in-Some.life (device_state it.device) (meter_gauge it.gauge) in
    let mid : Assembly L = assembly c.save-made.new.running (device_state c.save-made.new.device) (meter_gauge c.save-made.new.energy) in
    lives_on L it.profile (moment_in it) old.it c.in-Some.is it.living (MakesSave it.profile.checked.geometry.channels c.save-made.result) (assembly life mid.device mid.gauge)
    (comes_cut L (MakesSave it.profile.checked.geometry.channels c.save-made.result) old mid life (save_cut it.profile.checked.geometry.channels c.save-made.result) c.save-made.ensures.setup c.save-made.ensures.comes c.cut-cut_by_save.ensures.cuts)
    (c.cut-cut_by_save.ensures.setup ∙ c.save-made.ensures.setup)
    (now_cut L mid.it life c.cut-cut_by_save.ensures.cuts c.cut-cut_by_save.ensures.to)
    (subst (λ (s : Setup). HasSize s.shape.lines mid.device) (sym c.cut-cut_by_save.ensures.setup) c.save-made.ensures.size)
