use Rattle.ddr4_timing.proofs.place.Place.bank_address.Goals as goal

pub returns : goal.returns
returns c = search
