use Rattle.std.proofs.Common.{rules, ◌≡◌, ◌++◌, ap₂, ◌∙◌, replicate, List, ℕ}
use Rattle.sector_device.specs.Spare.{spare_size}
use Rattle.store_file.proofs.form.with_spare.Goals as goal

pub returns : goal.returns
returns c =
    let device : c.in_ok-bytes.bytes.items ≡ c.args.device.now = search rules in
    let spare : c.in_ok-spare.spare.items ≡ replicate {A = ℕ} spare_size 0 = c.in_ok-spare.ensures in
    c.in_ok-append.ensures.items ∙ ap₂ (λ (a b : List ℕ). a ++ b) device spare
