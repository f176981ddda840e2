use Rattle.std.proofs.Common.{[], ◌∷◌, List, IsTrue, refl, subst, sym, ap, ◌∙◌}
use Rattle.auto_precharge.specs.Unfolding.{MayFollow, Stands, Unfolded, unfolded, unfolded_with}
use Rattle.auto_precharge.specs.declared.issued.Issued.{Issued}
use Rattle.auto_precharge.proofs.Settling.{unfolded_push}
use Rattle.command_trace.specs.Following.{issued_in, issued_of}
use Rattle.command_trace.proofs.Following.{counts_more, faulty_more, faulty_now, follows_with, issued_in-append, not_lawful}
use Rattle.command_trace.proofs.front.CommandChecker.take.Goals as goal

pub returns-then-not-self-clause-follows : goal.returns-then-not-self-clause-follows
returns-then-not-self-clause-follows c found f = record {
  lawful = λ h. absurd cc;
  stands = λ h. absurd cc;
  none = λ h. absurd cc;
  broken = λ bad. faulty_more _ found _ c.args.next.now (f.broken (λ h. absurd cc));
  count = let e = counts_more found c.args.next.now c.args.self.now.count f.count in cc;
}

pub returns-then-not-self-clause-lawful : goal.returns-then-not-self-clause-lawful
returns-then-not-self-clause-lawful c found f =
    (λ h. absurd cc, λ l. absurd (not_lawful _ _ _ (faulty_more _ found _ c.args.next.now (f.broken (λ h. absurd cc))) l))

pub returns-then-not-follow-clause-follows : goal.returns-then-not-follow-clause-follows
returns-then-not-follow-clause-follows c found f =
    let is : IsTrue c.args.self.now.is_lawful = cc in
    let behind = unfolded c.args.rules.now.timing (issued_in found) in
    let tells = c.if-not-follow.ensures.tells behind (f.stands is) in
    let own : MayFollow c.args.rules.now behind c.args.next.now.entry.command → MayFollow c.args.rules.now behind c.issued.result.command =
    λ may. subst (λ (x : Issued). MayFollow c.args.rules.now behind x.command) (sym c.issued.ensures) may in
    record {
      lawful = λ h. absurd cc;
      stands = λ h. absurd cc;
      none = λ h. absurd cc;
      broken = λ bad. faulty_now c.args.rules.now found c.args.next.now (f.lawful is) (λ may. let follows = tells.1 (own may) in absurd cc);
      count = let e = counts_more found c.args.next.now c.args.self.now.count f.count in cc;
    }

pub returns-then-not-follow-clause-lawful : goal.returns-then-not-follow-clause-lawful
returns-then-not-follow-clause-lawful c found f =
    let is : IsTrue c.args.self.now.is_lawful = cc in
    let behind = unfolded c.args.rules.now.timing (issued_in found) in
    let tells = c.if-not-follow.ensures.tells behind (f.stands is) in
    let own : MayFollow c.args.rules.now behind c.args.next.now.entry.command → MayFollow c.args.rules.now behind c.issued.result.command =
    λ may. subst (λ (x : Issued). MayFollow c.args.rules.now behind x.command) (sym c.issued.ensures) may in
    (λ h. absurd cc, λ l. tells.1 (own ((follows_with c.args.rules.now found c.args.next.now).0 l).1))

pub returns-clause-follows : goal.returns-clause-follows
returns-clause-follows c found f =
    let is : IsTrue c.args.self.now.is_lawful = cc in
    let timing = c.args.rules.now.timing in
    let behind = unfolded timing (issued_in found) in
    let may = subst (λ (x : Issued). MayFollow c.args.rules.now behind x.command) c.issued.ensures ((c.if-not-follow.ensures.tells behind (f.stands is)).0 refl) in
    let stands = subst (λ (x : Issued). Stands c.args.rules.now c.follow.new.self (unfolded_with timing behind x)) c.issued.ensures (c.if-not-follow.ensures.goes behind (f.stands is) refl) in
    let whole = ap (λ (l : List Issued). unfolded timing l) (issued_in-append found (c.args.next.now ∷ [])) ∙ unfolded_push timing (issued_in found) (issued_of c.args.next.now) in
    record {
      lawful = λ _. (follows_with c.args.rules.now found c.args.next.now).1 (f.lawful is, may);
      stands = λ _. subst (λ (u : Unfolded). Stands c.args.rules.now c.follow.new.self u) (sym whole) stands;
      none = λ _. f.none is;
      broken = λ bad. absurd (bad is);
      count = let e = counts_more found c.args.next.now c.args.self.now.count f.count in cc;
    }

pub returns-clause-lawful : goal.returns-clause-lawful
returns-clause-lawful c found f =
    let is : IsTrue c.args.self.now.is_lawful = cc in
    let behind = unfolded c.args.rules.now.timing (issued_in found) in
    let may = subst (λ (x : Issued). MayFollow c.args.rules.now behind x.command) c.issued.ensures ((c.if-not-follow.ensures.tells behind (f.stands is)).0 refl) in (
      λ _. (follows_with c.args.rules.now found c.args.next.now).1 (f.lawful is, may),
      λ _. refl,
    )
