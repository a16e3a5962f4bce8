use Rattle.std.proofs.Common.{◌≡◌, false, Some, None, ◌∷◌, arith, refl, sym, ◌∙◌, append-nil}
use Rattle.lig_kern.specs.declared.plainly.Plain.TheVariants.{Passes, Replaces}
use Rattle.lig_kern.specs.Plain.{plain_of}
use Rattle.lig_kern.specs.Places.{placed_items}
use Rattle.lig_kern.proofs.Moves.{moved_plain, moved_kern, moved_becomes}
use Rattle.lig_kern.proofs.PlainLemmas.{plain_is}
use Rattle.lig_kern.proofs.walking.plain_step.Goals as goal

pub returns-in_ok-push_symbol-in-Some-Passes-None-clause-moved : goal.returns-in_ok-push_symbol-in-Some-Passes-None-clause-moved
returns-in_ok-push_symbol-in-Some-Passes-None-clause-moved g c = λ value is rest.
    let seen : plain_of c.action.result ≡ Some (Passes None) = grind (arith, c.plain_action.ensures) in
    moved_plain g.O.RunItem.made value c.args.current c.args.next (c.args.next ∷ rest) c.args.out.now.items c.push_symbol.new.out.items
    refl (sym (c.action.ensures value is) ∙ plain_is c.action.result (Passes None) seen) (c.in_ok-push_symbol-in-Some-Passes-None.ensures.sent value is)

pub returns-in_ok-push_with_kern-in-Some-Passes-Some-clause-moved : goal.returns-in_ok-push_with_kern-in-Some-Passes-Some-clause-moved
returns-in_ok-push_with_kern-in-Some-Passes-Some-clause-moved g c = λ value is rest.
    let seen : plain_of c.action.result ≡ Some (Passes (Some c.in-Some-Passes-Some.amount)) = grind (arith, c.plain_action.ensures) in
    moved_kern g.O.RunItem.made value c.args.current c.args.next (c.args.next ∷ rest) c.in-Some-Passes-Some.amount c.args.out.now.items c.push_with_kern.new.out.items
    refl (sym (c.action.ensures value is) ∙ plain_is c.action.result (Passes (Some c.in-Some-Passes-Some.amount)) seen)
    (grind (arith, c.in_ok-push_with_kern-in-Some-Passes-Some.ensures.sent value is))

pub returns-in-Some-Replaces-clause-moved : goal.returns-in-Some-Replaces-clause-moved
unfolding placed_items
returns-in-Some-Replaces-clause-moved g c = λ value is rest.
    let seen : plain_of c.action.result ≡ Some (Replaces c.in-Some-Replaces.code) = grind (arith, c.plain_action.ensures) in
    rw c.inserted.ensures
    (moved_becomes g.O.RunItem.made value c.args.current c.args.next (c.args.next ∷ rest) c.in-Some-Replaces.code false false 0 c.args.out.now.items c.args.out.now.items
    refl (sym (c.action.ensures value is) ∙ plain_is c.action.result (Replaces c.in-Some-Replaces.code) seen) refl (sym (append-nil c.args.out.now.items)))
