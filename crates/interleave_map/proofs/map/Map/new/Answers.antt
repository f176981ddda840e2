use Rattle.interleave_map.proofs.map.Map.new.Goals as goal

pub returns-clause-is : goal.returns-clause-is
returns-clause-is c = search

pub returns-clause-lawful : goal.returns-clause-lawful
returns-clause-lawful g c = search
