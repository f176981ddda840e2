-- The life of a session as one of the headline.
use Rattle.nv_session.proofs.Common.{IsOneEvent, IsWork, MakesSave, MakesOneStep, ReadsLine}
use Rattle.nv_session.proofs.SessionLives.{begins_life, lives_charged, lives_on, set_rises}
use Rattle.nv_session.proofs.laws.sessions_live.Goals as goal

pub returns-clause-begins : goal.returns-clause-begins
returns-clause-begins g c = begins_life g.K.ChannelPort

pub returns-clause-one : goal.returns-clause-one
returns-clause-one g c = λ event reply found image events replies first. lives_on g.K.ChannelPort found image events replies first (λ setup. IsOneEvent event reply)

pub returns-clause-work : goal.returns-clause-work
returns-clause-work g c = λ channel command found image events replies first. lives_on g.K.ChannelPort found image events replies first (λ setup. IsWork channel command)

pub returns-clause-read : goal.returns-clause-read
returns-clause-read g c = λ line result found image events replies first. lives_on g.K.ChannelPort found image events replies first (λ setup. ReadsLine setup line result)

pub returns-clause-step : goal.returns-clause-step
returns-clause-step g c = λ result found image events replies first. lives_on g.K.ChannelPort found image events replies first (λ setup. MakesOneStep result)

pub returns-clause-save : goal.returns-clause-save
returns-clause-save g c = λ result found image events replies first. lives_on g.K.ChannelPort found image events replies first (λ setup. MakesSave setup.shape.channels result)

pub returns-clause-level : goal.returns-clause-level
returns-clause-level g c = λ found image events replies first level. lives_charged g.K.ChannelPort found image events replies first level

pub returns-clause-charged : goal.returns-clause-charged
returns-clause-charged g c = set_rises
