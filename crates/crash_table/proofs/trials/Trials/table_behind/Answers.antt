use Rattle.std.proofs.Common.{◌≡◌, ℕ, ◌<◌, List, [], ◌∷◌, ◌++◌, length, take, get_or, ◌∙◌, ap, arith, subst, sym}
use Rattle.std.proofs.lemmas.List.{take_more}
use Rattle.ddr4_timing.specs.Limits.{lines_of}
use Rattle.nv_script.specs.declared.line.ScriptLine.{ScriptLine}
use Rattle.crash_table.specs.declared.tried.Tried.{Tried}
use Rattle.crash_table.specs.Blocks.{AreBlocksOf}
use Rattle.crash_table.specs.Counting.{IsCountOf}
use Rattle.crash_table.specs.Outcomes.{AreTried}
use Rattle.crash_table.specs.Tables.{TellsFirst}
use Rattle.crash_table.proofs.Telling.{TakesIn, tells_more, tells_none_missing}
use Rattle.crash_table.proofs.trials.Trials.table_behind.Goals as goal

pub loop-place-preserved : goal.loop-place-preserved
loop-place-preserved g c =
    let size : ℕ = lines_of c.args.self.now.profile.now.checked.geometry in
    let lines : List ScriptLine = c.args.script.now.lines.items in
    let place : ℕ = c.loop-place.place in
    let last : ScriptLine = c.index-line.result.now in
    let tried : List Tried = c.in_ok-tried.tried.items in
    let number : ℕ = get_or c.args.script.now.numbers.items place 0 in
    let here : place < length lines = omega (arith, c.args.script.now.lines.ok.0) in
    let behind : AreTried size (take place lines) last tried =
    subst (λ (some : List ScriptLine). AreTried size some last tried) c.loop-place.invariant.done c.in_ok-tried.ensures.tried in
    let are : AreTried size (take place lines) (get_or lines place last) tried =
    subst (λ (line : ScriptLine). AreTried size (take place lines) line tried) c.index-line.ensures behind in
    let given : c.deref.result.now ≡ tried = c.deref.ensures.value in
    let takes : TakesIn number tried c.loop-place.table c.add.new.self = record {
      counts = λ all counted. subst (λ (more : List Tried). IsCountOf (all ++ more) c.add.new.self.counts) given (c.in_ok-add.ensures.counts all counted);
      blocks = λ some shown. subst (λ (n : ℕ). AreBlocksOf (some ++ (n, tried) ∷ []) c.add.new.self.blocks.items) c.number.ensures
          (subst (λ (more : List Tried). AreBlocksOf (some ++ (c.number.result, more) ∷ []) c.add.new.self.blocks.items) given (c.in_ok-add.ensures.blocks some shown));
    } in
    record {
      tells = tells_more size c.args.script.now place last tried c.loop-place.table c.add.new.self here c.loop-place.invariant.tells are takes;
      stands = c.in_ok-go_on.ensures.goes.stands c.args.self.now.profile.now c.loop-place.invariant.stands;
      done = c.in_ok-go_on.ensures.goes.done ∙ ap (λ (some : List ScriptLine). some ++ last ∷ []) c.loop-place.invariant.done ∙ ap (λ (line : ScriptLine). take place lines ++ line ∷ []) c.index-line.ensures
          ∙ sym (take_more lines place last here);
    }

pub returns-clause-tells : goal.returns-clause-tells
returns-clause-tells g c =
    let size : ℕ = lines_of c.args.self.now.profile.now.checked.geometry in
    let all : c.loop-place.place ≡ length c.args.script.now.lines.items = omega (arith, c.args.script.now.lines.ok.0) in
    subst (λ (n : ℕ). TellsFirst size c.args.script.now n c.loop-place.table) all c.loop-place.invariant.tells

pub returns-clause-complete : goal.returns-clause-complete
returns-clause-complete g c = tells_none_missing (lines_of c.args.self.now.profile.now.checked.geometry) c.args.script.now c.loop-place.place c.loop-place.table c.loop-place.invariant.tells
