use Rattle.board_hosts.proofs.checking.find_stranger.Goals as goal

pub returns-in-Some-strange_answer-clause-some : goal.returns-in-Some-strange_answer-clause-some
returns-in-Some-strange_answer-clause-some c = (c.in_default.ensures.none, c.in-Some-strange_answer.ensures.some)
