use Rattle.std.proofs.Common.{◌≡◌, ◌∙◌, ℕ, List, [], ◌∷◌, ◌++◌, ap, arith, map, sym}
use Rattle.std.specs.List.{range_with_len}
use Rattle.std.proofs.lemmas.List.FromFn.{map-range_with_len_more}
use Rattle.ddr4_timing.specs.declared.place.Place.{Place}
use Rattle.channel_set.specs.Set.{shape_of}
use Rattle.channel_locks.proofs.line_channels.LineChannels.of.Goals as goal

pub loop-line-preserved : goal.loop-line-preserved
loop-line-preserved g c =
    let before = c.loop-line.invariant in let pushed = c.push_reserved.ensures in
    let f = (shape_of g.K.ChannelPort c.args.set.now).channel_of in
    let line = c.loop-line.line in
    let here : c.in-Some.place.channel ≡ f line = ap (λ (p : Place). p.channel) c.in-Some.ensures.some.1 in
    record {
      made = pushed.items ∙ ap (λ (xs : List ℕ). xs ++ c.in-Some.place.channel ∷ []) before.made
          ∙ ap (λ (n : ℕ). map f (range_with_len 0 line) ++ n ∷ []) here ∙ sym (map-range_with_len_more f 0 line line (omega arith));
      length = omega (arith, pushed.len, before.length);
      room = omega (arith, pushed.capacity, before.room);
    }
