use Rattle.std.proofs.Common.{inr, rules}
use Rattle.command_line.proofs.Devices.{bare_device, some_lines, spare_device, whole_sectors}
use Rattle.command_line.proofs.store.device_of.Goals as goal

pub returns-then-is_none : goal.returns-then-is_none
returns-then-is_none c = bare_device c.args.store.items c.in-Some.size (search rules) (c.lines_of.ensures.none (search rules))

pub returns : goal.returns
returns c =
    let size = c.in-Some.size in
    let lines = some_lines size c.lines_of.result c.lines_of.ensures.some (search rules) in
    spare_device c.args.store.items c.in-Some-device_bytes.device.items size lines.0 (search rules) lines.1 c.in-Some-device_bytes.ensures.is

pub unreachable-requires : goal.unreachable-requires
unreachable-requires c =
    let size = c.in-Some.size in
    let lines = some_lines size c.lines_of.result c.lines_of.ensures.some (search rules) in
    c.in_default-device_bytes.ensures.none (search rules) (inr (search rules, whole_sectors size lines.0 lines.1))
