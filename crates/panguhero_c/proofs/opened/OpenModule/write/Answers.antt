use Rattle.panguhero_c.proofs.Writing.{writes}
use Rattle.panguhero_c.proofs.opened.OpenModule.write.Goals as goal

pub returns-in-Some : goal.returns-in-Some
returns-in-Some c =
    let chunk = c.in-Some.ensures.cases in
    writes c.args.line c.args.bytes.now c.in-Some.bytes.now c.write_told.result c.args.self.now.life c.write.new.self chunk.long chunk.same (record {
      result = c.write.result;
      told_is = c.write_told.ensures;
      goes = c.write.ensures.goes;
      same = record { device = c.write.ensures.device; gauge = c.write.ensures.gauge; profile = c.write.ensures.profile };
    })
