-- What is known of lawful lists by the numbers of a checked profile.
use Rattle.std.proofs.Common.{ℕ, List, [], ◌∷◌, ◌++◌, take}
use Rattle.ddr4_timing.proofs.Common.{Checked, IsLawful, KeepsRefresh, MayComeNext, Stamped}
pub use Rattle.ddr4_timing.proofs.Lawfulness.{IsReady, most_gap_some}
use Rattle.ddr4_timing.proofs.Lawfulness as lists

-- the front of a lawful list is lawful
pub IsLawful-take : (c : Checked) (list : List Stamped) (n : ℕ) → IsLawful c list → IsLawful c (take n list)
IsLawful-take c list n h = lists.IsLawful-take c.timing c.geometry list n h

-- the last command of a lawful list may come next after those before it
pub admits_from : (c : Checked) (list : List Stamped) (x : Stamped) → IsLawful c (list ++ x ∷ []) → MayComeNext c.timing c.geometry list x
admits_from c list x h = lists.admits_from c.timing c.geometry list x h

-- from a lawful list, with one more command
pub lawful_ready : (c : Checked) (list : List Stamped) (x : Stamped) → IsLawful c list → IsReady c.timing c.geometry list x → IsLawful c (list ++ x ∷ [])
lawful_ready c list x h r = lists.lawful_ready c.timing c.geometry list x h r

pub ready_lawful : (c : Checked) (list : List Stamped) (x : Stamped) → IsLawful c (list ++ x ∷ []) → IsReady c.timing c.geometry list x
ready_lawful c list x h = lists.ready_lawful c.timing c.geometry c.in_limits list x h

pub refresh_lawful : (c : Checked) (list : List Stamped) (x : Stamped) → IsLawful c (list ++ x ∷ []) → KeepsRefresh c.timing list x
refresh_lawful c list x h = lists.refresh_lawful c.timing c.geometry list x h
