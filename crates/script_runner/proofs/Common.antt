-- The words that most proofs of this crate cite, passed on from one place.
pub use Rattle.std.specs.Prelude.{IfErr, IfOk, MatchOption, is_some, unwrap_or}
pub use Rattle.std.proofs.lemmas.List.{append-nil, append_assoc, length-append, length-map, length-take-le, map-append, take_more}
pub use Rattle.std.proofs.lemmas.List.Elements.{All-append, All-cons, All-contains, All-get_or, All-head, All-nil, Contains-push}
pub use Rattle.energy_budget.specs.Gauge.{Gauge}
pub use Rattle.channel_port.specs.declared.port.ChannelPort.{Ghosts}
pub use Rattle.nv_machine.specs.State.{Machine, Setup, World, all_of, memory_of, start_of_life}
pub use Rattle.module_core.specs.declared.module.Module.{Module}
pub use Rattle.nv_script.specs.declared.answer.Answer.{Answer}
pub use Rattle.nv_script.specs.declared.line.ScriptLine.{ScriptLine}
pub use Rattle.nv_session.specs.Coming.{ComesTo, IsOneEvent, Tale}
pub use Rattle.nv_session.specs.Living.{GoesOnAlone, GoesOnBy, IsWork, LivesOn, RunsWith, SessionAt, device_state, session_at, set_to}
pub use Rattle.nv_session.specs.Sessions.{line_count_in, moment_in}
pub use Rattle.script_runner.specs.Keeping.{AnswersLine, AnswersPart, AnswersTruly, AnswersTurns, AnswersWhole, Bears, BearsOut, GoesThrough, IsKeptBy, TellsTruly}
pub use Rattle.script_runner.specs.Ledger.{IsOfLine, IsTrueBy, IsTrueOf, Ledger, accepted_by, at_rest, blank, first_of, grown, known_behind, memory_by, told_by}
