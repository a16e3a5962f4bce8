use Rattle.std.proofs.Common.{◌≡◌, ℕ, false, Option, List, Some, None, sym, subst, ◌∙◌, ap}
use Rattle.std.specs.Prelude.{IfOk, IfSome, Result, Ok, Err}
use Rattle.lig_kern.specs.declared.item.Item.{Item}
use Rattle.lig_kern.specs.Result.{Setting}
use Rattle.set_line.specs.Pieces.{is_space, portions_in, run_of}
use Rattle.set_line.specs.Onward.{Reaches, onward, setting}
use Rattle.set_line.proofs.AnswerLemmas.{refused_cut, run_kept}
use Rattle.set_line.proofs.OnwardLemmas.{cut_then, one_more, part_stops}
use Rattle.set_line.proofs.PieceLemmas.{cut_length, portions_cut, portions_run}
use Rattle.set_line.proofs.portions.set_stretch.Goals as goal

-- a fact that needs no value
in_any : {E : Type 0} (r : Result (Option ℕ) E) (Fact : Type 0) → Fact → IfOk r (λ steps. IfSome steps (λ n. Fact))
in_any (Ok None) Fact fact = tt
in_any (Ok (Some n)) Fact fact = fact
in_any (Err fault) Fact fact = tt

-- what the last run reaches, the stretch reaches
last_reached : {E : Type 0} (r : Result (Option ℕ) E) (whole rest : Option Setting) (items : List Item) (Fact : Type 0) → whole ≡ rest
    → IfOk r (λ steps. Reaches rest steps items) → IfOk r (λ steps. Fact → Reaches whole steps items)
last_reached (Ok steps) whole rest items Fact same reached = λ fact. subst (λ so_far. Reaches so_far steps items) (sym same) reached
last_reached (Err fault) whole rest items Fact same reached = tt

-- the run before the cut takes too many steps
pub returns-in_default-2-clause-reached : goal.returns-in_default-2-clause-reached
returns-in_default-2-clause-reached c = λ none.
    c.loop-run.invariant.onward
    ∙ part_stops c.args.terms.now.font c.args.terms.now.limit c.loop-run.so_far c.loop-run.items.items
    (portions_in c.args.right c.args.terms.now.font c.loop-run.rest.now) (run_of c.in-Some.run'.now (is_space c.in-Some.cut)) _
    (portions_cut c.args.right c.args.terms.now.font c.loop-run.rest.now c.in-Some.run'.now c.in-Some.cut c.in-Some.behind.now (rw c.font.ensures at c.in-Some.ensures))
    (rw c.in_default-2.is at c.in_ok-steps.ensures.reached)

pub loop-run-preserved : goal.loop-run-preserved
loop-run-preserved c =
    let first = rw c.font.ensures at c.in-Some.ensures in
    let within = rw c.in-Some-2.is at c.in_ok-steps.ensures.within in
    record {
      kept = within.0;
      few =
          one_more c.args.used c.loop-run.so_far c.in-Some-2.steps c.args.items.now.items c.loop-run.items.items c.add_run.new.items.items c.push.new.self.items
          c.in-Some-item_at.item c.in-Some.run'.now c.in-Some.behind.now c.loop-run.rest.now c.args.codes.now
          (cut_length c.args.terms.now.font c.loop-run.rest.now c.in-Some.run'.now c.in-Some.cut c.in-Some.behind.now first)
          (rw c.in-Some-2.is at c.in_ok-steps.ensures.few) c.loop-run.invariant.few c.in_ok-push.ensures.items;
      none =
          c.loop-run.invariant.none
          ∙ refused_cut c.args.terms.now.policy c.args.terms.now.font c.loop-run.rest.now c.in-Some.run'.now c.in-Some.cut c.in-Some.behind.now false first
          c.in-Some-item_at.ensures.refused;
      onward =
          c.loop-run.invariant.onward
          ∙ cut_then c.args.terms.now.font c.args.terms.now.limit c.loop-run.so_far c.in-Some-2.steps c.loop-run.items.items c.add_run.new.items.items c.push.new.self.items
          c.args.right c.loop-run.rest.now c.in-Some.run'.now c.in-Some.cut c.in-Some.behind.now c.in-Some-item_at.item first
          (rw c.in-Some-2.is at c.in_ok-steps.ensures.reached) within.0 c.in-Some-item_at.ensures.item c.in_ok-push.ensures.items;
    }

pub returns-clause-none : goal.returns-clause-none
returns-clause-none c =
    in_any c.add_run-2.result _
    (c.loop-run.invariant.none ∙ run_kept c.args.terms.now.policy c.args.terms.now.font c.loop-run.rest.now (rw c.font.ensures at c.in_default.ensures))

pub returns-clause-reached : goal.returns-clause-reached
returns-clause-reached c =
    last_reached c.add_run-2.result _ _ c.add_run-2.new.items.items _
    (c.loop-run.invariant.onward
    ∙ ap (onward c.args.terms.now.font c.args.terms.now.limit (setting c.loop-run.so_far c.loop-run.items.items))
    (portions_run c.args.right c.args.terms.now.font c.loop-run.rest.now (rw c.font.ensures at c.in_default.ensures)))
    c.add_run-2.ensures.reached
