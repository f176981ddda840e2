-- The tickets that replies give to reads.
use Rattle.std.specs.Prelude.{◌≢◌, Ok, Option, Some, None}
use Rattle.std.specs.Option.{ForSome}
use Rattle.channel_port.specs.declared.answers.Got.TheVariants.{Later}
use Rattle.channel_port.specs.declared.answers.Ticket.{Ticket}
use Rattle.nv_machine.specs.declared.events.Reply.{Reply}
use Rattle.nv_machine.specs.declared.events.Reply.TheVariants as replies

-- the ticket that a reply gives, if it gives one
abbrev pub given_ticket : Reply → Option Ticket
given_ticket (replies.Read (Ok (Later ticket))) = Some ticket
given_ticket reply = None

-- the second reply doesn't give the ticket that the first one gave
abbrev pub GivesAnother : Reply → Reply → Type 0
GivesAnother first second = ForSome (given_ticket first) (λ ticket. given_ticket second ≢ Some ticket)
