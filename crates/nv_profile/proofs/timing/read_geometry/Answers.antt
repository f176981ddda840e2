use Rattle.std.proofs.Common.{refl, [], ◌∷◌}
use Rattle.nv_profile.proofs.TableLemmas.{six_numbers}
use Rattle.nv_profile.proofs.timing.read_geometry.Goals as goal

pub returns-in_err-channels-clause-none : goal.returns-in_err-channels-clause-none
returns-in_err-channels-clause-none c _ x says =
    c.in_err-channels.ensures.none refl (x.channels ∷ x.ranks ∷ x.groups ∷ x.banks ∷ x.rows ∷ x.columns ∷ [])
    (record { found = rw (says.channels, says.ranks, says.groups, says.banks, says.rows, says.columns) refl })

pub returns-clause-some : goal.returns-clause-some
returns-clause-some c =
    let (channels, ranks, groups, banks, rows, columns) = six_numbers _ _ _ _ _ _ _ _ c.in_ok-channels.ensures.some in
    record {
      size = cc;
      channels = channels;
      ranks = ranks;
      groups = groups;
      banks = banks;
      rows = rows;
      columns = columns;
    }
