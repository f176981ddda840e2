-- What is stored of a life: it grows by each accepted write, and a cut moves it on.
use Rattle.std.proofs.Common.{◌≡◌, ℕ, ◌-◌, ◌≤◌, List, ◌++◌, length, drop, ap, ◌∙◌}
use Rattle.std.proofs.lemmas.List.{drop-append-le, take-append-le}
use Rattle.line_memory.specs.declared.Write as line_write
use Rattle.line_memory.specs.Memory.{after, memory_at}
use Rattle.line_memory.specs.History.{Recorded, recorded}
use Rattle.save_image.specs.Image.{Image}
use Rattle.nv_machine.specs.State.{Machine, start_of_life, stored_base, stored_writes}

-- what is stored from a number on of a life that began with this image
stored_of : Image → ℕ → List line_write.Write → ℕ → Recorded
stored_of image cut ws room = recorded (memory_at image.memory image.count ws cut) cut (drop (cut - image.count) ws) room

grown : (image : Image) (cut : ℕ) (ws more : List line_write.Write) (room : ℕ) → cut - image.count ≤ length ws
    → stored_of image cut (ws ++ more) room ≡ recorded (memory_at image.memory image.count ws cut) cut (drop (cut - image.count) ws ++ more) room
unfolding stored_of
grown image cut ws more room within =
    ap (λ (taken : List line_write.Write). recorded (after image.memory taken) cut (drop (cut - image.count) (ws ++ more)) room) (take-append-le (cut - image.count) ws more within)
    ∙ ap (λ (rest : List line_write.Write). recorded (memory_at image.memory image.count ws cut) cut rest room) (drop-append-le (cut - image.count) ws more within)

-- the life has gone on with these writes
pub stored_grows : (m n : Machine) (more : List line_write.Write) (room : ℕ) → n.cut ≡ m.cut → n.life.opened ≡ m.life.opened → n.life.writes ≡ m.life.writes ++ more
    → m.cut - start_of_life m.life ≤ length m.life.writes
    → recorded (stored_base n) n.cut (stored_writes n) room ≡ recorded (stored_base m) m.cut (stored_writes m ++ more) room
unfolding stored_of
stored_grows m n more room cut opened writes within =
    ap (λ (k : ℕ). stored_of n.life.opened k n.life.writes room) cut
    ∙ ap (λ (image : Image). stored_of image m.cut n.life.writes room) opened
    ∙ ap (λ (ws : List line_write.Write). stored_of m.life.opened m.cut ws room) writes
    ∙ grown m.life.opened m.cut m.life.writes more room within
