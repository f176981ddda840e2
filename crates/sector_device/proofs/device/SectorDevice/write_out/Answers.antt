use Rattle.std.proofs.Common.{◌∙◌, ◌+◌, ◌*◌, arith, refl, subst, sym}
use Rattle.save_device.specs.Device.{Moment, present}
use Rattle.save_device.specs.Memory.{state_of}
use Rattle.file_device.proofs.Backing.{kept_on}
use Rattle.sector_device.specs.Backing.{IsPutBelow}
use Rattle.sector_device.proofs.device.SectorDevice.write_out.Goals as goal

pub loop-number-init : goal.loop-number-init
loop-number-init g c =
    let m = c.args.self.now in
    record {
      inside = omega (arith, c.min-number.ensures, c.end.ensures.within, m.marked.size);
      same = refl;
      earlier = refl;
      calls = refl;
      places = refl;
      gate = c.requires;
      put = λ kept is place less up. let from = c.first.ensures place (m.marked.all place up) in let bad : ⊥ = omega (arith, from, less, c.min-number.ensures) in absurd bad;
    }

pub loop-number-preserved : goal.loop-number-preserved
loop-number-preserved g c =
    let I = c.loop-number.invariant in let next = c.put_next.ensures in let now = c.loop-number.self in let K = g.F.SectorFile in let moment = present (state_of now.mirror) in
    record {
      inside = c.in-Some.ensures.inside;
      same = next.same ∙ I.same;
      earlier = next.earlier ∙ I.earlier;
      calls = next.calls ∙ I.calls;
      places = next.places ∙ I.places;
      gate = c.in-Some.ensures.shut;
      put = λ kept is. subst (λ (moment : Moment). IsPutBelow (512 * (c.loop-number.number + c.in-Some.count)) moment kept) (sym next.same)
          (kept_on {A = IsPutBelow (512 * c.loop-number.number) moment} (K.kept now.file) (K.kept c.put_next.new.self.file) c.in-Some.ensures.put (λ was after puts below. puts refl below) I.put kept is);
    }

pub returns-clause-put : goal.returns-clause-put
returns-clause-put g c = λ good kept is.
    let now = c.loop-number.self in
    record {
      at = 512 * c.loop-number.number;
      below = λ place up. let end = c.end-in-loop-number.ensures.below place (now.marked.all place up) in omega (arith, end, c.loop-number-test.false);
      put = c.loop-number.invariant.put kept is;
    }
