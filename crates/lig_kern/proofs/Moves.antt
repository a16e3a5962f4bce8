-- The effect of a step of the code, by the action between the current symbol and the next one.
use Rattle.std.proofs.Common.{◌≡◌, ℕ, suc, zero, ◌+◌, ◌<◌, ◌≤◌, Bool, true, false, ℤ, List, [], ◌∷◌, ◌++◌, length, map, drop, Option, Some, None, IfSome, arith, rules, refl, ap, sym, subst, ◌∙◌, append_assoc, append-nil, length-append}
use Rattle.std.specs.Prelude.{if◌then◌else◌}
use Rattle.std.specs.List.{slice_get}
use Rattle.std.specs.Option.{option_and_then}
use Rattle.std.proofs.lemmas.List.Elements.{filter_map-append}
use Rattle.tfm_tables.specs.Font.{FontValue}
use Rattle.lig_kern.specs.declared.symbol.Symbol.TheVariants.{Char}
use Rattle.lig_kern.specs.declared.action.Action.{Action}
use Rattle.lig_kern.specs.declared.action.Action.TheVariants.{Kern, Lig}
use Rattle.lig_kern.specs.declared.item.Item.TheVariants.{Kern as KernItem}
use Rattle.lig_kern.specs.Matching.{action_between}
use Rattle.lig_kern.specs.Rewriting.{of_symbol, of_kern, splice_by}
use Rattle.lig_kern.proofs.Steps.{here, there, put_there}
use Rattle.lig_kern.proofs.Within.{StaysWithin, bit, between_within}
use Rattle.lig_kern.specs.declared.item.Item.{Item}
use Rattle.lig_kern.specs.declared.byte_range.ByteRange.{ByteRange}
use Rattle.lig_kern.specs.declared.placed_symbol.PlacedSymbol.{PlacedSymbol}
use Rattle.lig_kern.specs.Places.{PlacedElement, before, inserted_place, kept, placed_after, placed_by, placed_item, placed_items, placed_of, placed_step}
use Rattle.lig_kern.specs.Walking.{HasMoved, at}

-- the symbols ahead are the first one and the symbols after it
pub first_and_rest : (ahead : List PlacedSymbol) (next : PlacedSymbol) → slice_get ahead 0 ≡ Some next → ahead ≡ next ∷ drop 1 ahead
first_and_rest [] next e = absurd (search rules)
first_and_rest (x ∷ xs) next e = grind arith

pub placed_items-append : {O : Type 0} (made : Item → ByteRange → O) (font : FontValue) (xs ys : List PlacedElement) → placed_items made font (xs ++ ys) ≡ placed_items made font xs ++ placed_items made font ys
unfolding placed_items
placed_items-append made font xs ys = filter_map-append (placed_item made font) xs ys

-- a step of which the action is known
moves : (font : FontValue) (current next : PlacedSymbol) (rest : List PlacedSymbol) (action : Option Action) (sent : List PlacedElement) (current' : PlacedSymbol) (ahead' : List PlacedSymbol)
    → action_between font current.symbol next.symbol ≡ action
    → placed_by action (placed_of current) (placed_of next) ++ map placed_of rest ≡ sent ++ placed_of current' ∷ map placed_of ahead'
    → (splice_by action (of_symbol current.symbol) (of_symbol next.symbol)).pass ≡ length sent
    → (done : List PlacedElement) → placed_step font (at done current (next ∷ rest)) ≡ Some (at (done ++ sent) current' ahead')
unfolding placed_step
moves font current next rest action sent current' ahead' is put passed done =
    let elements =
    put_there done (placed_of current) (placed_of next) (map placed_of rest) (placed_by action (placed_of current) (placed_of next)) sent (placed_of current' ∷ map placed_of ahead') put in
    let cursor : length done + (splice_by action (of_symbol current.symbol) (of_symbol next.symbol)).pass ≡ length (done ++ sent) = omega (arith, length-append done sent, passed) in
    rw (here done (placed_of current) (placed_of next) (map placed_of rest)) (rw (there done (placed_of current) (placed_of next) (map placed_of rest))
    (rw is (rw elements (rw cursor refl))))

-- a step before a next symbol, given as the first of the symbols ahead
moved : {O : Type 0} (made : Item → ByteRange → O) (font : FontValue) (current next : PlacedSymbol) (ahead : List PlacedSymbol) (action : Option Action) (sent : List PlacedElement) (current' : PlacedSymbol) (ahead' : List PlacedSymbol) (out out' : List O)
    → slice_get ahead 0 ≡ Some next → action_between font current.symbol next.symbol ≡ action
    → placed_by action (placed_of current) (placed_of next) ++ map placed_of (drop 1 ahead) ≡ sent ++ placed_of current' ∷ map placed_of ahead'
    → (splice_by action (of_symbol current.symbol) (of_symbol next.symbol)).pass ≡ length sent
    → out' ≡ out ++ placed_items made font sent → HasMoved made font 1 current ahead current' ahead' out out'
unfolding placed_after
moved made font current next ahead action sent current' ahead' out out' first is put passed items =
    rw (first_and_rest ahead next first)
    (record { sent = sent; steps = λ done. ap (option_and_then (placed_after font 0)) (moves font current next (drop 1 ahead) action sent current' ahead' is put passed done); items = items })

pub moved_plain : {O : Type 0} (made : Item → ByteRange → O) (font : FontValue) (current next : PlacedSymbol) (ahead : List PlacedSymbol) (out out' : List O)
    → slice_get ahead 0 ≡ Some next → action_between font current.symbol next.symbol ≡ None
    → out' ≡ out ++ placed_items made font (placed_of current ∷ []) → HasMoved made font 1 current ahead next (drop 1 ahead) out out'
moved_plain made font current next ahead out out' first is items =
    moved made font current next ahead None (placed_of current ∷ []) next (drop 1 ahead) out out' first is refl refl items

pub moved_kern : {O : Type 0} (made : Item → ByteRange → O) (font : FontValue) (current next : PlacedSymbol) (ahead : List PlacedSymbol) (amount : ℤ) (out out' : List O)
    → slice_get ahead 0 ≡ Some next → action_between font current.symbol next.symbol ≡ Some (Kern amount)
    → out' ≡ out ++ placed_items made font (placed_of current ∷ []) ++ made (KernItem amount) (before next.place) ∷ [] → HasMoved made font 1 current ahead next (drop 1 ahead) out out'
unfolding placed_items
moved_kern made font current next ahead amount out out' first is items =
    moved made font current next ahead (Some (Kern amount)) (placed_of current ∷ inserted ∷ []) next (drop 1 ahead) out out' first is refl refl
    (items ∙ append_assoc out (placed_items made font (placed_of current ∷ [])) (made (KernItem amount) (before next.place) ∷ [])
    ∙ ap (λ more. out ++ more) (sym (placed_items-append made font (placed_of current ∷ []) (inserted ∷ []))))
  where
    inserted : PlacedElement
    inserted = record { element = of_kern amount; place = before next.place }

-- the character that a ligature inserts, with its place
abbrev pub inserted : ℕ → Bool → Bool → PlacedSymbol → PlacedSymbol → PlacedSymbol
inserted code keep_left keep_right current next = record { symbol = Char code; place = inserted_place keep_left keep_right current.place next.place }

-- the symbols ahead with the next one, if it is kept
kept_ahead : (keep : Bool) (ahead : List PlacedSymbol) (next : PlacedSymbol) → slice_get ahead 0 ≡ Some next
    → kept keep (placed_of next) ++ map placed_of (drop 1 ahead) ≡ map placed_of (if keep then ahead else drop 1 ahead)
kept_ahead true ahead next first = sym (ap (map placed_of) (first_and_rest ahead next first))
kept_ahead false ahead next first = refl

put_is : (code : ℕ) (keep_left keep_right : Bool) (pass : ℕ) (current next : PlacedSymbol) (ahead : List PlacedSymbol) → slice_get ahead 0 ≡ Some next
    → placed_by (Some (Lig code keep_left keep_right pass)) (placed_of current) (placed_of next) ++ map placed_of (drop 1 ahead)
    ≡ kept keep_left (placed_of current) ++ placed_of (inserted code keep_left keep_right current next) ∷ map placed_of (if keep_right then ahead else drop 1 ahead)
put_is code true keep_right pass current next ahead first = ap (λ more. placed_of current ∷ placed_of (inserted code true keep_right current next) ∷ more) (kept_ahead keep_right ahead next first)
put_is code false keep_right pass current next ahead first = ap (λ more. placed_of (inserted code false keep_right current next) ∷ more) (kept_ahead keep_right ahead next first)

module _ {O : Type 0} (made : Item → ByteRange → O) (font : FontValue) (current next : PlacedSymbol) (ahead : List PlacedSymbol) (code : ℕ) where
  pub moved_stays : (keep_left keep_right : Bool) (pass : ℕ) (ahead' : List PlacedSymbol) (out : List O)
      → slice_get ahead 0 ≡ Some next → action_between font current.symbol next.symbol ≡ Some (Lig code keep_left keep_right pass) → pass < bit keep_left
      → ahead' ≡ inserted code keep_left keep_right current next ∷ (if keep_right then ahead else drop 1 ahead)
      → HasMoved made font 1 current ahead current ahead' out out
  unfolding placed_items
  moved_stays false keep_right pass ahead' out first is below put = absurd (omega arith)
  moved_stays true keep_right (suc pass) ahead' out first is below put = absurd (omega arith)
  moved_stays true keep_right zero ahead' out first is below put =
      moved made font current next ahead (Some (Lig code true keep_right 0)) [] current ahead' out out first is
      (put_is code true keep_right 0 current next ahead first ∙ ap (λ more. placed_of current ∷ map placed_of more) (sym put)) refl (sym (append-nil out))

  pub moved_becomes : (keep_left keep_right : Bool) (pass : ℕ) (out out' : List O)
      → slice_get ahead 0 ≡ Some next → action_between font current.symbol next.symbol ≡ Some (Lig code keep_left keep_right pass) → pass ≡ bit keep_left
      → out' ≡ out ++ placed_items made font (kept keep_left (placed_of current))
      → HasMoved made font 1 current ahead (inserted code keep_left keep_right current next) (if keep_right then ahead else drop 1 ahead) out out'
  moved_becomes keep_left keep_right pass out out' first is reached items =
      moved made font current next ahead (Some (Lig code keep_left keep_right pass)) (kept keep_left (placed_of current)) (inserted code keep_left keep_right current next)
      (if keep_right then ahead else drop 1 ahead) out out' first is
      (put_is code keep_left keep_right pass current next ahead first) (reached ∙ by keep_left) items
    where
      by : (keep : Bool) → bit keep ≡ length (kept keep (placed_of current))
      by true = refl
      by false = refl

  within_of : (keep_left keep_right : Bool) (pass : ℕ) → action_between font current.symbol next.symbol ≡ Some (Lig code keep_left keep_right pass)
      → pass ≤ bit keep_left + bit keep_right
  within_of keep_left keep_right pass is =
      let family : Option Action → Type 0 = λ action. IfSome action StaysWithin in
      subst family is (between_within font current.symbol next.symbol)

  passes_by : (keep_left keep_right : Bool) (pass : ℕ) (out out' : List O)
      → slice_get ahead 0 ≡ Some next → action_between font current.symbol next.symbol ≡ Some (Lig code keep_left keep_right pass)
      → bit keep_left < pass → pass ≤ bit keep_left + bit keep_right
      → out' ≡ out ++ placed_items made font (kept keep_left (placed_of current) ++ placed_of (inserted code keep_left keep_right current next) ∷ [])
      → HasMoved made font 1 current ahead next (drop 1 (if keep_right then ahead else drop 1 ahead)) out out'
  passes_by keep_left false pass out out' first is past within items = absurd (omega arith)
  passes_by false true pass out out' first is past within items =
      let one : pass ≡ 1 = omega arith in
      moved made font current next ahead (Some (Lig code false true pass)) (placed_of (inserted code false true current next) ∷ []) next (drop 1 ahead) out out' first is refl one items
  passes_by true true pass out out' first is past within items =
      let two : pass ≡ 2 = omega arith in
      moved made font current next ahead (Some (Lig code true true pass)) (placed_of current ∷ placed_of (inserted code true true current next) ∷ []) next (drop 1 ahead) out out' first is refl two items

  pub moved_passes : (keep_left keep_right : Bool) (pass : ℕ) (out middle out' : List O)
      → slice_get ahead 0 ≡ Some next → action_between font current.symbol next.symbol ≡ Some (Lig code keep_left keep_right pass) → bit keep_left < pass
      → middle ≡ out ++ placed_items made font (kept keep_left (placed_of current)) → out' ≡ middle ++ placed_items made font (placed_of (inserted code keep_left keep_right current next) ∷ [])
      → HasMoved made font 1 current ahead next (drop 1 (if keep_right then ahead else drop 1 ahead)) out out'
  moved_passes keep_left keep_right pass out middle out' first is past items items' =
      passes_by keep_left keep_right pass out out' first is past (within_of keep_left keep_right pass is)
      (items' ∙ ap (λ m. m ++ placed_items made font (placed_of (inserted code keep_left keep_right current next) ∷ [])) items ∙ append_assoc out _ _
      ∙ ap (λ m. out ++ m) (sym (placed_items-append made font (kept keep_left (placed_of current)) (placed_of (inserted code keep_left keep_right current next) ∷ []))))
