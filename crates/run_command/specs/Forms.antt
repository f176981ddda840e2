-- The forms of a line that tells an answer, and the lines that are written of answers.
use Rattle.std.specs.Prelude.{◌≡◌, ℕ, List, [], ◌∷◌, ◌++◌, Bool, Option, if◌then◌else◌}
use Rattle.std.specs.Io.KnownBytes.{Appends}
use Rattle.std.specs.List.{flat_map}
use Rattle.nv_script.specs.declared.answer.Answer.{Answer}
use Rattle.answer_json.specs.Answers.{answer_line, answer_text}

-- in the words of the answer, or as its object: both of the parts that are told of it
abbrev pub line_in : Bool → Answer → List ℕ
line_in is_json answer = if is_json then answer_text answer else answer_line answer

-- answers, each as a line
abbrev pub lines_in : Bool → List Answer → List ℕ
lines_in is_json answers = flat_map (λ answer. line_in is_json answer ++ 10 ∷ []) answers

-- answers followed those that were taken, and what a writer holds grew by their lines
pub record WritesMore (is_json : Bool) (taken now : List Answer) (old new : Option (List ℕ)) : Type 0 where
  pub more : List Answer
  pub now_are : now ≡ taken ++ more
  pub written : Appends old new (lines_in is_json more)
