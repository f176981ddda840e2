-- Events that are asked for in numbers, and the answers that replies come to.
use Rattle.std.specs.Prelude.{◌≡◌, ℕ, List, [], ◌∷◌, replicate, Ok, Err, Some, None, ⊤}
use Rattle.channel_port.specs.declared.answers.Collected.TheVariants as collected
use Rattle.channel_port.specs.declared.answers.Got.TheVariants.{Now, Later}
use Rattle.nv_machine.specs.declared.events.Event.{Event}
use Rattle.nv_machine.specs.declared.events.Event.TheVariants as event
use Rattle.nv_machine.specs.declared.events.Reply.{Reply}
use Rattle.nv_machine.specs.declared.events.Reply.TheVariants as reply
use Rattle.reply_codes.specs.declared.codes.Told.{Told}
use Rattle.reply_codes.specs.Codes.{arm_told, disarm_told, loss_told, read_told, refusal_told, save_told, ticket_told, told, told_code, write_told}
use Rattle.whole_lives.specs.declared.events.Answer.{Answer}
use Rattle.whole_lives.specs.declared.events.Ask.{Ask}

-- this event is asked for
abbrev pub IsAsked : Ask → Event → Type 0
IsAsked ask (event.Write write) = (ask.kind ≡ 1) × (write ≡ record { line = ask.first; «data» = ask.«data» })
IsAsked ask (event.Read line) = (ask.kind ≡ 2) × (line ≡ ask.first)
IsAsked ask (event.Collect ticket) = (ask.kind ≡ 3) × (ticket ≡ record { channel = ask.first; serial = ask.second })
IsAsked ask (event.Work channel) = (ask.kind ≡ 4) × (channel ≡ ask.first)
IsAsked ask event.Sense = ask.kind ≡ 5
IsAsked ask event.Arm = ask.kind ≡ 6
IsAsked ask event.Disarm = ask.kind ≡ 7
IsAsked ask event.SaveBegin = ask.kind ≡ 8
IsAsked ask event.SaveStep = ask.kind ≡ 9
IsAsked ask event.Lose = ask.kind ≡ 10

-- these events, one after the other
abbrev pub AreAsked : List Ask → List Event → Type 0
AreAsked [] [] = ⊤
AreAsked [] (event ∷ events) = ⊥
AreAsked (ask ∷ asks) [] = ⊥
AreAsked (ask ∷ asks) (event ∷ events) = IsAsked ask event × AreAsked asks events

-- an answer with bytes, and one with none
abbrev pub answered_with : Told → List ℕ → Answer
answered_with is bytes = record { code = is.code; first = is.numbers.first; second = is.numbers.second; «data» = bytes }

abbrev pub answered : Told → Answer
answered is = answered_with is (replicate 64 0)

-- the answer that a reply comes to
abbrev pub answer_of : Reply → Answer
answer_of (reply.Write result) = answered (write_told result)
answer_of (reply.Read (Ok (Now bytes))) = answered_with (told_code 0) bytes
answer_of (reply.Read (Ok (Later ticket))) = answered (ticket_told ticket)
answer_of (reply.Read (Err refusal)) = answered (read_told (Err refusal))
answer_of (reply.Collect (collected.Data line bytes at)) = answered_with (told 0 line at) bytes
answer_of (reply.Collect collected.Pending) = answered (told_code 23)
answer_of (reply.Collect collected.Unknown) = answered (told_code 25)
answer_of (reply.Work (Some done)) = answered (told 0 1 0)
answer_of (reply.Work None) = answered (told_code 0)
answer_of (reply.Sense level) = answered (told 0 level 0)
answer_of (reply.Arm result) = answered (arm_told result)
answer_of (reply.Disarm result) = answered (disarm_told result)
answer_of (reply.SaveBegin (Ok done)) = answered (told_code 0)
answer_of (reply.SaveBegin (Err refusal)) = answered (refusal_told refusal)
answer_of (reply.SaveStep result) = answered (save_told (Ok result))
answer_of (reply.Lose loss) = answered (loss_told loss)
