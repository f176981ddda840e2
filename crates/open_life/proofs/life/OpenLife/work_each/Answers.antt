use Rattle.std.proofs.Common.{◌≡◌, ◌≤◌, ◌∙◌, ℕ, suc, ◌+◌, arith, true, false, refl, sym, ap, subst, Option, Some, None, true≢false}
use Rattle.std.specs.Option.{is_some}
use Rattle.channel_port.specs.declared.answers.Done.{Done}
use Rattle.open_life.specs.Lives.{WorksUpTo, count_of}
use Rattle.open_life.specs.Now.{now_of}
use Rattle.open_life.proofs.life.OpenLife.work_each.Goals as goal
use Rattle.open_life.proofs.life.OpenLife.work_each.Goals.{then-is_some, else-is_some}

one_of : (done : Option Done) → is_some done ≡ true → count_of done ≡ 1
one_of None = λ is. absurd (true≢false (sym is))
one_of (Some done) = λ is. refl

none_of_it : (done : Option Done) → is_some done ≡ false → count_of done ≡ 0
none_of_it None = λ is. refl
none_of_it (Some done) = λ is. absurd (true≢false is)

pub loop-channel-preserved : goal.loop-channel-preserved
loop-channel-preserved g c =
    let L = g.K.ChannelPort in let inv = c.loop-channel.invariant in let channel : ℕ = c.loop-channel.channel in let before : ℕ = c.loop-channel.issued in let issued : ℕ = c.if-is_some.issued in
    let one_more : suc channel ≡ channel + 1 = omega arith in
    let counts : issued ≡ before + count_of c.work.result = elim c.if-is_some.branch [
      | then-is_some w ↦ w.issued-is ∙ ap (λ (n : ℕ). before + n) (sym (one_of c.work.result (sym c.is_some.ensures ∙ w.if-is_some.true)))
      | else-is_some w ↦ omega (arith, w.issued-is, none_of_it c.work.result (sym c.is_some.ensures ∙ w.if-is_some.false))
    ] in
    let most : issued ≤ channel + 1 = elim c.if-is_some.branch [ then-is_some w ↦ omega (arith, w.issued-is, inv.most) | else-is_some w ↦ omega (arith, w.issued-is, inv.most) ] in
    record {
      device = c.work.ensures.device ∙ inv.device;
      gauge = c.work.ensures.gauge ∙ inv.gauge;
      profile = c.work.ensures.profile ∙ inv.profile;
      most = most;
      works = subst (λ (n : ℕ). WorksUpTo L n issued (now_of c.args.self.now) (now_of c.work.new.self)) one_more
          (before, now_of c.loop-channel.self, c.work.result, inv.works, c.work.ensures.goes, counts);
    }
