-- Which profile a TOML table says.
use Rattle.std.specs.Prelude.{◌≡◌, ℕ, ◌≤◌, List, length, codes, Some, IsSomeAnd, IsUtf8, if◌then◌else◌}
use Rattle.ddr4_timing.specs.declared.timing.Timing.{Timing}
use Rattle.ddr4_timing.specs.declared.timing.Geometry.{Geometry}
use Rattle.ddr4_timing.specs.Checks.{PassesForCommands}
use Rattle.ddr4_timing.specs.Limits.{Passes}
use Rattle.ddr4_timing.specs.declared.timing.CommandRules.{CommandRules}
use Rattle.nv_profile.specs.declared.reading.Numbers.{Numbers}
use Rattle.nv_profile.specs.declared.reading.Numbers.TheVariants.{Commands, Module}
use Rattle.energy_budget.specs.declared.costs.CostNumbers.{CostNumbers}
use Rattle.energy_budget.specs.CostNumbers.{AreCostsInLimits}
use Rattle.toml.specs.Data.{Members}
use Rattle.toml.specs.Parse.{parse_document}
use Rattle.nv_profile.specs.declared.sizes.ModuleSizes.{ModuleSizes}
use Rattle.interleave_map.specs.declared.ready.Interleaving.{Interleaving}
use Rattle.interleave_map.specs.Ready.{text_of}
use Rattle.nv_profile.specs.declared.profile.Profile.{Profile}
use Rattle.nv_profile.specs.declared.reading.TheConstants.{MOST_BYTES}
use Rattle.nv_profile.specs.Nothing.{HoldsOfNone}
use Rattle.nv_profile.specs.Limits.{AreSizes}
use Rattle.nv_profile.specs.Tables.{size_of, has_key, number_at, number_or_zero, word_at, table_at}

-- these 18 keys and no further one, each with its number
pub record SaysTiming (table : Members) (timing : Timing) : Type 0 where
  pub size : size_of table ≡ 18
  pub t_rcd : number_at (codes "tRCD") table ≡ Some timing.t_rcd
  pub t_rp : number_at (codes "tRP") table ≡ Some timing.t_rp
  pub t_ras : number_at (codes "tRAS") table ≡ Some timing.t_ras
  pub cl : number_at (codes "CL") table ≡ Some timing.cl
  pub cwl : number_at (codes "CWL") table ≡ Some timing.cwl
  pub t_ccd_s : number_at (codes "tCCD_S") table ≡ Some timing.t_ccd_s
  pub t_ccd_l : number_at (codes "tCCD_L") table ≡ Some timing.t_ccd_l
  pub t_rrd_s : number_at (codes "tRRD_S") table ≡ Some timing.t_rrd_s
  pub t_rrd_l : number_at (codes "tRRD_L") table ≡ Some timing.t_rrd_l
  pub t_faw : number_at (codes "tFAW") table ≡ Some timing.t_faw
  pub t_wr : number_at (codes "tWR") table ≡ Some timing.t_wr
  pub t_wtr_s : number_at (codes "tWTR_S") table ≡ Some timing.t_wtr_s
  pub t_wtr_l : number_at (codes "tWTR_L") table ≡ Some timing.t_wtr_l
  pub t_rtp : number_at (codes "tRTP") table ≡ Some timing.t_rtp
  pub t_rtw : number_at (codes "tRTW") table ≡ Some timing.t_rtw
  pub t_cs : number_at (codes "tCS") table ≡ Some timing.t_cs
  pub t_rfc : number_at (codes "tRFC") table ≡ Some timing.t_rfc
  pub t_refi : number_at (codes "tREFI") table ≡ Some timing.t_refi

pub record SaysGeometry (table : Members) (geometry : Geometry) : Type 0 where
  pub size : size_of table ≡ 6
  pub channels : number_at (codes "channels") table ≡ Some geometry.channels
  pub ranks : number_at (codes "ranks") table ≡ Some geometry.ranks
  pub groups : number_at (codes "groups") table ≡ Some geometry.groups
  pub banks : number_at (codes "banks") table ≡ Some geometry.banks
  pub rows : number_at (codes "rows") table ≡ Some geometry.rows
  pub columns : number_at (codes "columns") table ≡ Some geometry.columns

-- of these keys `e_digest` may be missing; each cost is within its limits
pub record SaysCosts (table : Members) (costs : CostNumbers) : Type 0 where
  pub size : size_of table ≡ (if has_key (codes "e_digest") table then 11 else 10)
  pub e_act : number_at (codes "e_act") table ≡ Some costs.e_act
  pub e_col : number_at (codes "e_col") table ≡ Some costs.e_col
  pub e_pre : number_at (codes "e_pre") table ≡ Some costs.e_pre
  pub e_ref : number_at (codes "e_ref") table ≡ Some costs.e_ref
  pub e_sre : number_at (codes "e_sre") table ≡ Some costs.e_sre
  pub e_clk : number_at (codes "e_clk") table ≡ Some costs.e_clk
  pub e_mark : number_at (codes "e_mark") table ≡ Some costs.e_mark
  pub e_sync : number_at (codes "e_sync") table ≡ Some costs.e_sync
  pub e_page : number_at (codes "e_page") table ≡ Some costs.e_page
  pub e_digest : number_or_zero (codes "e_digest") table ≡ Some costs.e_digest
  pub leak : number_at (codes "leak") table ≡ Some costs.leak
  pub within : AreCostsInLimits costs

-- of these keys `retries` may be missing; each size is within its limits
pub record SaysModule (table : Members) (sizes : ModuleSizes) (word : Interleaving) : Type 0 where
  pub size : size_of table ≡ (if has_key (codes "retries") table then 6 else 5)
  pub depth : number_at (codes "depth") table ≡ Some sizes.depth
  pub reads : number_at (codes "reads") table ≡ Some sizes.reads
  pub trail : number_at (codes "trail") table ≡ Some sizes.trail
  pub notices : number_at (codes "notices") table ≡ Some sizes.notices
  pub retries : number_or_zero (codes "retries") table ≡ Some sizes.retries
  pub map : word_at (codes "map") table ≡ Some (text_of word)
  pub within : AreSizes sizes

-- no sizes and map are said
abbrev pub SaysNoModule : Members → Type 0
SaysNoModule table = (sizes : ModuleSizes) → HoldsOfNone (SaysModule table sizes)

-- a table stands under the key, of which this holds
abbrev pub Under : List ℕ → Members → (Members → Type 0) → Type 0
Under key table P = IsSomeAnd (table_at key table) P

-- these four tables and no further key, and the timing and the geometry pass the checks
pub record SaysProfile (table : Members) (profile : Profile) : Type 0 where
  pub size : size_of table ≡ 4
  pub timing : Under (codes "timing") table (λ t. SaysTiming t profile.checked.timing)
  pub geometry : Under (codes "geometry") table (λ t. SaysGeometry t profile.checked.geometry)
  pub costs : Under (codes "costs") table (λ t. SaysCosts t profile.costs)
  pub sizes : Under (codes "module") table (λ t. SaysModule t profile.sizes profile.map)
  pub passes : Passes profile.checked.timing profile.checked.geometry

-- the tables of the timing and of the geometry and no further key, whose numbers commands may be checked by
pub record SaysRules (table : Members) (rules : CommandRules) : Type 0 where
  pub size : size_of table ≡ 2
  pub timing : Under (codes "timing") table (λ t. SaysTiming t rules.timing)
  pub geometry : Under (codes "geometry") table (λ t. SaysGeometry t rules.geometry)
  pub passes : PassesForCommands rules.timing rules.geometry

-- the bytes are UTF-8, and TOML that says the profile
pub record IsProfileText (bytes : List ℕ) (profile : Profile) : Type 0 where
  pub short : length bytes ≤ MOST_BYTES
  pub utf8 : IsUtf8 bytes
  pub says : IsSomeAnd (parse_document bytes) (λ table. SaysProfile table profile)

-- the same of the numbers for commands alone
pub record IsRulesText (bytes : List ℕ) (rules : CommandRules) : Type 0 where
  pub short : length bytes ≤ MOST_BYTES
  pub utf8 : IsUtf8 bytes
  pub says : IsSomeAnd (parse_document bytes) (λ table. SaysRules table rules)

-- no text of such numbers
abbrev pub IsNoRules : List ℕ → Type 0
IsNoRules bytes = HoldsOfNone (IsRulesText bytes)

-- the bytes say these numbers: those of a profile, or those for commands alone
abbrev pub IsNumbersText : List ℕ → Numbers → Type 0
IsNumbersText bytes (Module profile) = IsProfileText bytes profile
IsNumbersText bytes (Commands rules) = IsRulesText bytes rules

-- the timing and the geometry by which commands are checked
abbrev pub timing_in : Numbers → Timing
timing_in (Module profile) = profile.checked.timing
timing_in (Commands rules) = rules.timing

abbrev pub geometry_in : Numbers → Geometry
geometry_in (Module profile) = profile.checked.geometry
geometry_in (Commands rules) = rules.geometry

-- no profile's text
abbrev pub IsNoProfile : List ℕ → Type 0
IsNoProfile bytes = HoldsOfNone (IsProfileText bytes)
