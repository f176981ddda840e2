use Rattle.std.proofs.Common.{◌∙◌, ◌<◌, ◌≤◌, ap, arith, get_or, length, refl, sym}
use Rattle.script_runner.specs.Ended.{Lives}
use Rattle.command_line.proofs.Lives.{life_begins, none_begins}
use Rattle.command_line.proofs.whole.Whole.begin.Goals as goal

pub returns-then-self : goal.returns-then-self
returns-then-self c = λ lives given is.
    let told = c.in_ok-tell_rest.ensures.so_far lives given is in
    let least : length lives ≤ c.tell_rest.new.self.begun = omega (arith, c.if-self.true, ap (λ (l : Lives). length l) told.lives_are) in
    none_begins lives given c.args.answer c.tell_rest.new.self _ c.requires.begins told c.in_ok-tell_rest.ensures.all c.in_ok-push.ensures.items refl least refl refl refl

pub returns : goal.returns
returns c = λ lives given is.
    let told = c.in_ok-tell_rest.ensures.so_far lives given is in
    let less : c.tell_rest.new.self.begun < length lives = omega (arith, c.if-self.false, ap (λ (l : Lives). length l) told.lives_are) in
    let here = ap (λ (l : Lives). get_or l c.tell_rest.new.self.begun c.index-self-self.result) (sym told.lives_are) ∙ sym c.index-self-self.is in
    life_begins lives given c.args.answer c.tell_rest.new.self _ c.requires.begins told c.in_ok-tell_rest.ensures.all c.in_ok-push.ensures.items refl
    c.index-self-self.result less here refl (c.channels-self.ensures ∙ sym c.index-self-self.is) (c.in_ok-self.ensures.items_if_clones_equal (λ y same. same))
