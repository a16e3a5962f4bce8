use Rattle.std.proofs.Common.{◌≡◌, ◌+◌, ◌≤◌, length, get_or, Some, arith, refl, ap, sym, ◌∙◌}
use Rattle.std.specs.List.{slice_get}
use Rattle.std.specs.Option.{option_or}
use Rattle.std.proofs.lemmas.List.{get_or-replicate}
use Rattle.std.proofs.lemmas.Option.{slice_get_read, slice_get_past}
use Rattle.tfm_tables.specs.Program.{address_of}
use Rattle.tfm_tables.specs.Pairs.{address_in}
use Rattle.tfm_tables.proofs.ChainLemmas.{walk_past, walk_on, walk_end}
use Rattle.tfm_tables.proofs.PairLemmas.{row_is}
use Rattle.tfm_tables.proofs.pairs.walked_row.Goals as goal

-- without a start no code has an address
pub returns-in_default : goal.returns-in_default
returns-in_default c = row_is c.args.program.now c.args.start _ refl (λ code small. ap address_in (get_or-replicate 256 code 65535 0 small) ∙ rw c.in_default.is refl)

-- before the walk no code has an address
pub loop-step-init : goal.loop-step-init
loop-step-init c = record {
  long = refl;
  found = λ code small. ap (λ entry. option_or (address_in entry) (address_of c.args.program.now c.in-Some.start code)) (get_or-replicate 256 code 65535 0 small);
}

pub loop-step-preserved : goal.loop-step-preserved
loop-step-preserved c =
    let program = c.args.program.now in
    let at = c.loop-step.at in
    let step = c.in-Some-get.step.now in
    let here : slice_get program at ≡ Some step = slice_get_read program (length program) at step refl c.in-Some-get.ensures.lookup.3.0 c.in-Some-get.ensures.lookup.1 in record {
      long = c.mark.array_long;
      found = λ code small.
          ap (λ o. option_or o (address_of program (at + (c.from.result + 1)) code)) (c.mark.ensures code small)
          ∙ walk_on (address_in (get_or c.loop-step.row code 0)) program at code (at + (c.from.result + 1)) step here (omega arith) (omega arith)
          ∙ c.loop-step.invariant.found code small;
    }

pub returns-then-step-ge128 : goal.returns-then-step-ge128
returns-then-step-ge128 c =
    let program = c.args.program.now in
    let at = c.loop-step.at in
    let step = c.in-Some-get.step.now in
    let here : slice_get program at ≡ Some step = slice_get_read program (length program) at step refl c.in-Some-get.ensures.lookup.3.0 c.in-Some-get.ensures.lookup.1 in
    row_is program c.args.start c.mark.new.row c.mark.array_long (λ code small.
    c.mark.ensures code small
    ∙ walk_end (address_in (get_or c.loop-step.row code 0)) program at code step here (omega arith)
    ∙ c.loop-step.invariant.found code small
    ∙ rw c.in-Some.is refl)

pub returns-in_default-get : goal.returns-in_default-get
returns-in_default-get c =
    let program = c.args.program.now in
    let at = c.loop-step.at in
    let past : length program ≤ at = first_of (omega (arith, c.in_default-get.ensures.lookup.3), grind (arith, c.get.ensures.lookup, c.in_default-get.is)) in
    row_is program c.args.start c.loop-step.row c.loop-step.invariant.long (λ code small.
    sym (walk_past (address_in (get_or c.loop-step.row code 0)) program at code (slice_get_past program at past))
    ∙ c.loop-step.invariant.found code small
    ∙ rw c.in-Some.is refl)
