use Rattle.module_saves.proofs.Common.{refl, shape_of, sym, view_of}
use Rattle.module_saves.proofs.ClosingSaves.{saves_closing}
use Rattle.module_saves.proofs.saves.Saves.finish.Goals as goal

pub returns-clause-saves : goal.returns-clause-saves
returns-clause-saves g c = λ s made ready same.
    let shape = shape_of g.K.ChannelPort c.args.channels.now in let told = c.pay_and_finish-finished in
    saves_closing shape c.args.channels.now.shaped s made c.args.self.now _ _ ready c.in-Some.run' (sym c.in-Some.ensures.value) (view_of g.K.ChannelPort c.args.channels.now) same refl told.new.run _ _
    _ _ refl refl c.take.ensures.after c.learn.ensures c.repeats_of-repeats.result c.repeats_of-repeats.ensures told.result told.ensures
