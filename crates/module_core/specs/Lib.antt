-- the store of the machine, and what the module and its device know of it
-- which machine a front stands for, and a module; and what each of its calls answers
pub mod Fronts
pub mod Draining
pub mod Issuing
pub mod Stands
pub mod Parts
pub mod Cutting
pub mod Opening
pub mod Stepping
pub mod Drained
pub mod Covering
-- what the laws say of modules
pub mod InTurn
pub mod ModuleLives
pub mod Copies
pub mod HonestCalls
pub mod Losing
pub mod Rising
pub mod IssuedRuns
