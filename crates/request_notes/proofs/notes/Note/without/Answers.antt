use Rattle.request_notes.proofs.notes.Note.without.Goals as goal

pub returns-clause-note : goal.returns-clause-note
returns-clause-note c old new rise gone is = record {
  read = c.hit_without.ensures old new c.args.self.row rise gone is.read;
  write = c.hit_without-2.ensures old new c.args.self.row rise gone is.write;
  oldest = c.oldest_without.ensures old new rise gone is.oldest;
}
