-- The REF or PREA of a rank in a span, and the one of several ranks that goes first.
use Rattle.std.proofs.Common.{◌≡◌, ℕ, ◌+◌, ◌*◌, ◌<◌, ◌≤◌, ◌⊎◌, ◌↔◌, max, min, List, Option, Some, None, IsTrue, inl, inr, arith, subst, IfSome}
use Rattle.frfcfs.proofs.Common.{AllClosed, Checked, Command, IsLawful, IsRankNext, IsRankNextAt, IsSoonerOf, Next, OffersRank, PreAll, Ref, Stamped, is_asleep, last_ref, ref_count, with_command}
use Rattle.ddr4_timing.proofs.Ready.{ready_lawful}
use Rattle.frfcfs.proofs.Leads.{lead_at}

abbrev IsOfRank : ℕ → Command → Type 0
IsOfRank rank cmd = (cmd ≡ Ref rank) ⊎ (cmd ≡ PreAll rank)

-- REF asks for closed banks and PREA for an open one

asked : (c : Checked) (list : List Stamped) (rank k : ℕ) (cmd : Command) → IsOfRank rank cmd → IsLawful c (with_command list k cmd) →
    (¬ IsTrue (is_asleep rank list)) × (((cmd ≡ Ref rank) × AllClosed c.geometry rank list) ⊎ ((cmd ≡ PreAll rank) × (¬ AllClosed c.geometry rank list)))
asked c list rank k cmd (inl e) h = let keeps = (ready_lawful c list (record { clock = k; cmd = Ref rank }) (rw (← e) h)).rows in (keeps.awake, inl (e, keeps.rows))
asked c list rank k cmd (inr e) h = let keeps = (ready_lawful c list (record { clock = k; cmd = PreAll rank }) (rw (← e) h)).rows in (keeps.awake, inr (e, keeps.rows))

pub one_rank : (c : Checked) (list : List Stamped) (k rank : ℕ) (a b : Command) → OffersRank c list k rank a → OffersRank c list k rank b → a ≡ b
one_rank c list k rank a b x y = grind (arith, asked c list rank k a x.kind x.lawful, asked c list rank k b y.kind y.lawful)

-- the rank's one command: what its banks ask for, lawful at the clocks of a span
pub record IsRefresh (c : Checked) (list : List Stamped) (rank : ℕ) (x : Stamped) : Type 0 where
  pub kind : IsOfRank rank x.cmd
  pub closed : AllClosed c.geometry rank list → x.cmd ≡ Ref rank
  pub opened : (¬ AllClosed c.geometry rank list) → x.cmd ≡ PreAll rank
  pub exact : (k : ℕ) → (IsLawful c (with_command list k x.cmd) ↔ ((¬ IsTrue (is_asleep rank list)) × (x.clock ≤ k) × (k ≤ last_ref rank list + 9 * c.timing.t_refi)))

only_rank : (c : Checked) (list : List Stamped) (k rank other : ℕ) (cmd : Command) → rank ≤ other → other < rank + 1 → OffersRank c list k other cmd → OffersRank c list k rank cmd
only_rank c list k rank other cmd l h offers = let e : other ≡ rank = omega (arith, l, h) in subst (λ (r : ℕ). OffersRank c list k r cmd) e offers

-- the clocks at which it is offered
offered : (c : Checked) (list : List Stamped) (rank lead k other : ℕ) (x : Stamped) (cmd : Command) → IsRefresh c list rank x → lead ≡ (ref_count rank list + 8) * c.timing.t_refi → rank ≤ other → other < rank + 1 → OffersRank c list k other cmd →
    (lead ≤ k) × (x.clock ≤ k) × (k ≤ last_ref rank list + 9 * c.timing.t_refi)
offered c list rank lead k other x cmd is at l h offers =
    let mine = only_rank c list k rank other cmd l h offers in
    let same : cmd ≡ x.cmd = grind (arith, asked c list rank k cmd mine.kind mine.lawful, is.closed, is.opened) in
    let span = (is.exact k).0 (subst (λ (y : Command). IsLawful c (with_command list k y)) same mine.lawful) in
    ((lead_at c list rank k lead at).0 mine.lead, span.1, span.2)

pub refresh_first : (c : Checked) (list : List Stamped) (rank now last lead from clock : ℕ) (x : Stamped) (next : Next) → rank < c.geometry.ranks → (¬ IsTrue (is_asleep rank list)) → IsRefresh c list rank x → lead ≡ (ref_count rank list + 8) * c.timing.t_refi →
    from ≡ max lead now → clock ≡ max x.clock from → clock ≤ last_ref rank list + 9 * c.timing.t_refi → next ≡ record { clock = clock; cmd = x.cmd; serves = None } → IsRankNext c list now last rank (rank + 1) (Some next)
refresh_first c list rank now last lead from clock x next within awake is at from_is clock_is until next_is =
    rw next_is (record {
      rank = rank;
      from = omega arith;
      until = omega arith;
      offers = record {
        within = within;
        lead = (lead_at c list rank clock lead at).1 (omega (arith, from_is, clock_is));
        kind = is.kind;
        lawful = (is.exact clock).1 (awake, omega (arith, clock_is), until);
      };
      first = λ other k cmd l h later before offers. (omega (arith, offered c list rank lead k other x cmd is at l h offers, later, from_is, clock_is), λ _. l);
    })

pub refresh_none : (c : Checked) (list : List Stamped) (rank now last lead from clock : ℕ) (x : Stamped) → IsRefresh c list rank x → lead ≡ (ref_count rank list + 8) * c.timing.t_refi → from ≡ max lead now → clock ≡ max x.clock from →
    min (last_ref rank list + 9 * c.timing.t_refi) last < clock → IsRankNext c list now last rank (rank + 1) None
refresh_none c list rank now last lead from clock x is at from_is clock_is past other k cmd l h later before offers =
    absurd (omega (arith, offered c list rank lead k other x cmd is at l h offers, later, before, from_is, clock_is, past))

-- a rank that comes into lead behind the span, and one that is asleep
pub refresh_behind : (c : Checked) (list : List Stamped) (rank now last lead from : ℕ) → lead ≡ (ref_count rank list + 8) * c.timing.t_refi → from ≡ max lead now → last < from → IsRankNext c list now last rank (rank + 1) None
refresh_behind c list rank now last lead from at from_is past other k cmd l h later before offers =
    absurd (omega (arith, (lead_at c list rank k lead at).0 (only_rank c list k rank other cmd l h offers).lead, later, before, from_is, past))

pub refresh_asleep : (c : Checked) (list : List Stamped) (rank now last : ℕ) → IsTrue (is_asleep rank list) → IsRankNext c list now last rank (rank + 1) None
refresh_asleep c list rank now last asleep other k cmd l h later before offers =
    let mine = only_rank c list k rank other cmd l h offers in (asked c list rank k cmd mine.kind mine.lawful).0 asleep

-- what holds of two holds of the one that goes first
pub sooner_keeps : (P : Next → Type 0) (a b r : Option Next) → IsSoonerOf a b r → IfSome a P → IfSome b P → IfSome r P
sooner_keeps P None b r is p q = rw is q
sooner_keeps P (Some x) None r is p q = rw is p
sooner_keeps P (Some x) (Some y) r is p q = elim is [ inl h ↦ rw h.1 p | inr h ↦ rw h.1 q ]

-- the first of some ranks is the first of more where no other goes sooner
stays_first : (c : Checked) (list : List Stamped) (now last low end inner outer : ℕ) (next : Next) (is : IsRankNextAt c list now last inner outer next) → low ≤ inner → outer ≤ end →
    ((other k : ℕ) (cmd : Command) → low ≤ other → other < end → now ≤ k → k ≤ last → OffersRank c list k other cmd → (next.clock ≤ k) × (k ≡ next.clock → is.rank ≤ other)) → IsRankNextAt c list now last low end next
stays_first c list now last low end inner outer next is l h first = record {
  rank = is.rank;
  from = omega (arith, l, is.from);
  until = omega (arith, h, is.until);
  offers = is.offers;
  first = first;
}

-- ranks below one, and those from it on
pub rank_sooner : (c : Checked) (list : List Stamped) (now last low mid end : ℕ) (a b r : Option Next) → low ≤ mid → mid ≤ end → IsSoonerOf a b r → IsRankNext c list now last low mid a → IsRankNext c list now last mid end b → IsRankNext c list now last low end r
rank_sooner c list now last low mid end None None r lm me is f g = rw is (λ other k cmd l h later before offers. grind (arith, f other k cmd, g other k cmd))
rank_sooner c list now last low mid end None (Some y) r lm me is f g = rw is (stays_first c list now last low end mid end y g lm (omega arith) (λ other k cmd l h later before offers. grind (arith, f other k cmd, g.first other k cmd)))
rank_sooner c list now last low mid end (Some x) None r lm me is f g = rw is (stays_first c list now last low end low mid x f (omega arith) me (λ other k cmd l h later before offers. grind (arith, f.first other k cmd, g other k cmd)))
rank_sooner c list now last low mid end (Some x) (Some y) r lm me (inl is) f g =
    rw is.1 (stays_first c list now last low end low mid x f (omega arith) me (λ other k cmd l h later before offers. grind (arith, is.0, f.until, f.first other k cmd, g.first other k cmd)))
rank_sooner c list now last low mid end (Some x) (Some y) r lm me (inr is) f g =
    rw is.1 (stays_first c list now last low end mid end y g lm (omega arith) (λ other k cmd l h later before offers. grind (arith, is.0, f.first other k cmd, g.first other k cmd)))
