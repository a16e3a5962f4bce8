-- The effect of a plain action.
use Rattle.std.proofs.Common.{◌≡◌, ℕ, suc, zero, ◌+◌, true, false, List, [], ◌∷◌, ◌++◌, length, map, Option, Some, None, arith, refl, ap, length-append}
use Rattle.std.proofs.lemmas.List.Elements.{filter_map-append}
use Rattle.tfm_tables.specs.Font.{FontValue}
use Rattle.lig_kern.specs.declared.action.Action.{Action}
use Rattle.lig_kern.specs.declared.action.Action.TheVariants.{Kern, Lig}
use Rattle.lig_kern.specs.declared.plainly.Plain.{Plain}
use Rattle.lig_kern.specs.declared.plainly.Plain.TheVariants.{Passes, Replaces}
use Rattle.lig_kern.specs.declared.symbol.Symbol.{Symbol}
use Rattle.lig_kern.specs.Matching.{action_between}
use Rattle.lig_kern.specs.Plain.{plain_next, plain_of, plain_sent}
use Rattle.lig_kern.specs.Rewriting.{Configuration, Element, after_steps, is_final, item_of, items_of, of_symbol, splice_by, step_from}
use Rattle.lig_kern.proofs.Steps.{here, there, put_there, settled}

-- the action that is this plain one
abbrev pub action_by : Plain → Option Action
action_by (Passes None) = None
action_by (Passes (Some amount)) = Some (Kern amount)
action_by (Replaces code) = Some (Lig code false false 0)

pub plain_is : (action : Option Action) (plain : Plain) → plain_of action ≡ Some plain → action ≡ action_by plain
plain_is None plain is = let same : Passes None ≡ plain = grind (arith, is) in ap action_by same
plain_is (Some (Kern amount)) plain is = let same : Passes (Some amount) ≡ plain = grind (arith, is) in ap action_by same
plain_is (Some (Lig code false false zero)) plain is = let same : Replaces code ≡ plain = grind (arith, is) in ap action_by same
plain_is (Some (Lig code false false (suc pass))) plain is = absurd (cc)
plain_is (Some (Lig code false true pass)) plain is = absurd (cc)
plain_is (Some (Lig code true keep_right pass)) plain is = absurd (cc)

-- ---- the step

-- the items of two lists, one after the other, are those of the first followed by those of the second
pub items_of-append : (font : FontValue) (xs ys : List Element) → items_of font (xs ++ ys) ≡ items_of font xs ++ items_of font ys
unfolding items_of
items_of-append font xs ys = filter_map-append (item_of font) xs ys

-- the configuration with these elements before the current symbol, and these symbols ahead of it
abbrev pub at : List Element → Symbol → List Symbol → Configuration
at done current ahead = record { elements = done ++ of_symbol current ∷ map of_symbol ahead; cursor = length done }

-- the items after a step of which the action is plain, and then some more steps
pub settles_next : (font : FontValue) (n : ℕ) (done : List Element) (current next : Symbol) (rest : List Symbol) (plain : Plain) → plain_of (action_between font current next) ≡ Some plain
    → settled font (suc n) (at done current (next ∷ rest)) ≡ settled font n (at (done ++ plain_sent plain current) (plain_next plain next) rest)
unfolding after_steps step_from
settles_next font n done current next rest plain is =
    let elements =
    put_there done (of_symbol current) (of_symbol next) (map of_symbol rest) (splice_by (action_by plain) (of_symbol current) (of_symbol next)).elements (plain_sent plain current)
    (of_symbol (plain_next plain next) ∷ map of_symbol rest) (put plain) in
    let cursor : length done + (splice_by (action_by plain) (of_symbol current) (of_symbol next)).pass ≡ length (done ++ plain_sent plain current) =
    omega (arith, length-append done (plain_sent plain current), passed plain) in
    rw (here done (of_symbol current) (of_symbol next) (map of_symbol rest)) (rw (there done (of_symbol current) (of_symbol next) (map of_symbol rest))
    (rw (plain_is (action_between font current next) plain is) (rw elements (rw cursor refl))))
  where
    put : (plain : Plain) → (splice_by (action_by plain) (of_symbol current) (of_symbol next)).elements ++ map of_symbol rest
        ≡ plain_sent plain current ++ of_symbol (plain_next plain next) ∷ map of_symbol rest
    put (Passes None) = refl
    put (Passes (Some amount)) = refl
    put (Replaces code) = refl

    passed : (plain : Plain) → (splice_by (action_by plain) (of_symbol current) (of_symbol next)).pass ≡ length (plain_sent plain current)
    passed (Passes None) = refl
    passed (Passes (Some amount)) = refl
    passed (Replaces code) = refl

-- the items of a run whose last symbol is current
pub settles_last : (font : FontValue) (done : List Element) (current : Symbol) → settled font 0 (at done current []) ≡ Some (items_of font (done ++ of_symbol current ∷ []))
unfolding after_steps
settles_last font done current =
    let long : length (done ++ of_symbol current ∷ []) ≡ length done + 1 = length-append done _ in
    let last : is_final (at done current []) ≡ true = grind (arith, long) in
    rw last refl
