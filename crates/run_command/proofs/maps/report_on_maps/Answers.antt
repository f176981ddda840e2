use Rattle.std.proofs.Common.{rules, ◌≡◌}
use Rattle.interleave_map.specs.declared.ready.ReadyMap.{ReadyMap}
use Rattle.interleave_map.specs.declared.ready.Interleaving.TheVariants.{Lines, Xor}
use Rattle.interleave_map.specs.Ready.{place_by}
use Rattle.run_command.proofs.Bad.{ended, refused_on}
use Rattle.run_command.proofs.Ways.{ready_ways}
use Rattle.run_command.proofs.maps.report_on_maps.Goals as goal

pub new-lines_map-requires : goal.new-lines_map-requires
new-lines_map-requires g c =
    let checked = c.args.profile.now.checked in let ready : ReadyMap = record { interleaving = Lines; checked = checked } in
    let splits : c.ways.result.0.0 ≡ ready = search rules in let joins : c.ways.result.1.0 ≡ ready = search rules in
    ready_ways checked Lines (record { callable = search rules; value = search rules; only = search rules })
    (record { callable = search rules; value = λ line below. (place_by Lines checked.geometry line, search rules); below = λ place line lies joined. search rules; back = search rules })

pub new-xor_map-requires : goal.new-xor_map-requires
new-xor_map-requires g c =
    let checked = c.args.profile.now.checked in let ready : ReadyMap = record { interleaving = Xor; checked = checked } in
    let splits : c.ways-2.result.0.0 ≡ ready = search rules in let joins : c.ways-2.result.1.0 ≡ ready = search rules in
    ready_ways checked Xor (record { callable = search rules; value = search rules; only = search rules })
    (record { callable = search rules; value = λ line below. (place_by Xor checked.geometry line, search rules); below = λ place line lies joined. search rules; back = search rules })

pub returns-in_err-lines-clause-bad : goal.returns-in_err-lines-clause-bad
returns-in_err-lines-clause-bad g c =
    refused_on c.args.profile.now.checked.geometry c.args.script.now c.from_residual.result c.in_err-lines.field-0.0 c.from_residual.ensures.1 c.in_err-lines.ensures.refused

pub returns-clause-bad : goal.returns-clause-bad
returns-clause-bad g c = ended c.args.profile.now.checked.geometry c.args.script.now c.do_lines_kept.result _ _ c.do_lines_kept.ensures.fault
