-- The ports of a list of parts.
use Rattle.std.proofs.Common.{◌≡◌, ◌∙◌, List, [], ◌∷◌, ◌++◌, Option, ap, sym}
use Rattle.std.proofs.lemmas.List.{append-nil}
use mathlib.Core.List.{append_assoc}
use Rattle.channel_port.specs.declared.port.ChannelPort.{Ghosts}
use Rattle.channel_locks.specs.declared.part.Part.{Part}
use Rattle.channel_locks.specs.Unlocked.{port_in, ports_in}

module _ {K : Type 0} (L : Ghosts K) where
  -- a further part has its port behind the others
  pub ports_more : (parts : List (Option (Part K L))) (part : Option (Part K L)) → ports_in L (parts ++ part ∷ []) ≡ ports_in L parts ++ port_in L part
  ports_more [] part = append-nil (port_in L part)
  ports_more (first ∷ parts) part =
      ap (λ (ports : List K). port_in L first ++ ports) (ports_more parts part)
      ∙ sym (append_assoc (port_in L first) (ports_in L parts) (port_in L part))

  -- ports to which a further part's port came are those of the parts with that part behind them
  pub ports_with : (parts : List (Option (Part K L))) (part : Option (Part K L)) (old new : List K)
      → new ≡ old ++ port_in L part → old ≡ ports_in L parts → new ≡ ports_in L (parts ++ part ∷ [])
  ports_with parts part old new more was =
      more ∙ ap (λ (ports : List K). ports ++ port_in L part) was ∙ sym (ports_more parts part)
