-- Proofs of the laws of the rewriting.
use Rattle.std.proofs.Common.{◌≡◌, ℕ, suc, zero, ◌+◌, ◌*◌, ◌<◌, ◌≤◌, Bool, true, false, cond, List, [], ◌∷◌, ◌++◌, length, map, Option, Some, None, IfSome, arith, refl, ap, sym, subst, ◌∙◌, append_assoc, length-append, rules}
use Rattle.std.specs.Prelude.{is_some, nat_lt, if◌then◌else◌}
use Rattle.std.proofs.lemmas.Bool.{leb-true, ltb-true, ltb-false}
use Rattle.std.proofs.lemmas.List.{length-map}
use Rattle.std.specs.List.{find, filter_map, cons_option, range_with_len, slice_get}
use Rattle.std.specs.Option.{option_and_then, option_map, option_map_or}
use Rattle.tfm_tables.specs.Font.{FontValue}
use Rattle.tfm_tables.specs.Program.{program_of, right_code_of}
use Rattle.lig_kern.specs.declared.symbol.Symbol.{Symbol}
use Rattle.lig_kern.specs.declared.symbol.Symbol.TheVariants.{Left, Char, Right}
use Rattle.lig_kern.specs.declared.action.Action.{Action}
use Rattle.lig_kern.specs.declared.action.Action.TheVariants.{Kern, Lig}
use Rattle.lig_kern.specs.declared.item.Item.{Item}
use Rattle.lig_kern.specs.declared.item.Item.TheVariants.{Char as CharItem}
use Rattle.lig_kern.specs.declared.plainly.Plain.TheVariants.{Passes}
use Rattle.lig_kern.specs.Matching.{action_between}
use Rattle.lig_kern.specs.Plain.{plain_of}
use Rattle.lig_kern.specs.Rewriting.{Configuration, Element, of_symbol, of_kern, action_at, items_of, item_of, is_final, final_items, opening, after_steps, right_end, splice_by, spliced, step_from, symbols_of, character_width}
use Rattle.lig_kern.specs.Result.{Setting, IsResultFrom, result_after, result_from, result_within, setting_from}
use Rattle.lig_kern.specs.Laws.{HasOneResult, HasFewItems, FindsResult, FindsResultFrom, HasNoMatches, SetsAsItself, plain_items}
use Rattle.lig_kern.proofs.PlainLemmas.{at, settles_last, settles_next}
use Rattle.lig_kern.proofs.Steps.{settled, unsettled}
use Rattle.lig_kern.proofs.Within.{StaysWithin, bit, between_within}

-- ---- one result

-- no number of steps leads further than the one after which the items are known
not_past : (font : FontValue) (n m : ℕ) (c : Configuration) (xs ys : List Item) → settled font n c ≡ Some xs → settled font m c ≡ Some ys → m ≤ n
not_past font n m c xs ys a b = by (nat_lt n m) refl (after_steps font m c) refl
  where
    by : (t : Bool) → nat_lt n m ≡ t → (o : Option Configuration) → after_steps font m c ≡ o → m ≤ n
    by false above o e = ltb-false n m above
    by true below None e = absurd (let gone = rw e at b in cc)
    by true below (Some d) e = absurd (let gone : settled font n c ≡ None = unsettled font m n c d e (ltb-true n m below) in cc)

same_steps : (font : FontValue) (symbols : List Symbol) (n m : ℕ) (xs ys : List Item)
    → result_from font symbols n ≡ Some xs → result_from font symbols m ≡ Some ys → n ≡ m
unfolding result_from
same_steps font symbols n m xs ys a b =
    omega (arith, not_past font n m (opening symbols) xs ys a b, not_past font m n (opening symbols) ys xs b a)

abbrev setting : ℕ → List Item → Setting
setting n xs = record { steps = n; items = xs }

-- Law: a run has at most one result, because each step is determined by the configuration before it
pub one_result : (font : FontValue) (run : List ℕ) (right : Bool) → HasOneResult font run right
one_result font run right = λ a b is_a is_b.
    let steps : a.steps ≡ b.steps = same_steps font (symbols_of font run right) a.steps b.steps a.items b.items is_a is_b in
    let items : Some a.items ≡ Some b.items = sym is_a ∙ ap (result_after font run right) steps ∙ is_b in
    ap (λ n. setting n a.items) steps ∙ ap (setting b.steps) (grind (arith, items))

-- ---- the result within a limit

abbrev has_result : FontValue → List Symbol → ℕ → Bool
has_result font symbols n = is_some (result_from font symbols n)

-- a number that a search of a range finds is in the range and passes the test
found_in_range : (p : ℕ → Bool) (from count : ℕ) → IfSome (find p (range_with_len from count)) (λ k. (k < from + count) × (p k ≡ true))
found_in_range p from zero = tt
found_in_range p from (suc count) = by (p from) refl (found_in_range p (from + 1) count)
  where
    by : (b : Bool) → p from ≡ b → IfSome (find p (range_with_len (from + 1) count)) (λ k. (k < from + 1 + count) × (p k ≡ true))
        → IfSome (cond b (Some from) (find p (range_with_len (from + 1) count))) (λ k. (k < from + suc count) × (p k ≡ true))
    by true here rest = (omega arith, here)
    by false here rest = onward (find p (range_with_len (from + 1) count)) rest
      where
        onward : (o : Option ℕ) → IfSome o (λ k. (k < from + 1 + count) × (p k ≡ true)) → IfSome o (λ k. (k < from + suc count) × (p k ≡ true))
        onward None h = tt
        onward (Some k) h = (omega (arith, h.0), h.1)

-- if a number in a range passes a test and no smaller number does, a search of the range finds it
find_only : (p : ℕ → Bool) (from count k : ℕ) → from ≤ k → k < from + count → p k ≡ true → ((j : ℕ) → j < k → p j ≡ false)
    → find p (range_with_len from count) ≡ Some k
find_only p from zero k low high here before = absurd (omega arith)
find_only p from (suc count) k low high here before = by (nat_lt from k) refl (λ below. find_only p (from + 1) count k (omega arith) (omega arith) here before)
  where
    by : (b : Bool) → nat_lt from k ≡ b → (from < k → find p (range_with_len (from + 1) count) ≡ Some k) → find p (range_with_len from (suc count)) ≡ Some k
    by true below rest = let fails : p from ≡ false = before from (ltb-true from k below) in rw fails (rest (ltb-true from k below))
    by false above rest = let same : from ≡ k = omega (arith, ltb-false from k above) in rw same (rw here refl)

-- if no number in a range passes a test, a search of the range finds none
find_none : (p : ℕ → Bool) (from count : ℕ) → ((k : ℕ) → from ≤ k → k < from + count → p k ≡ false) → find p (range_with_len from count) ≡ None
find_none p from zero never = refl
find_none p from (suc count) never =
    let fails : p from ≡ false = never from (omega arith) (omega arith) in
    rw fails (find_none p (from + 1) count (λ k low high. never k (omega arith) (omega arith)))

-- no smaller number of steps than the result's leads to a result
none_before : (font : FontValue) (symbols : List Symbol) (result : Setting) → IsResultFrom font symbols result
    → (j : ℕ) → j < result.steps → has_result font symbols j ≡ false
none_before font symbols result is j below = by (result_from font symbols j) refl
  where
    by : (o : Option (List Item)) → result_from font symbols j ≡ o → is_some o ≡ false
    by None e = refl
    by (Some items) e = absurd (omega (arith, same_steps font symbols j result.steps items result.items e is))

found_result : (font : FontValue) (symbols : List Symbol) (limit : ℕ) (result : Setting) → IsResultFrom font symbols result → result.steps ≤ limit
    → result_within font symbols limit ≡ Some result
unfolding result_within
found_result font symbols limit result is within =
    let found : find (has_result font symbols) (range_with_len 0 (limit + 1)) ≡ Some result.steps =
    find_only (has_result font symbols) 0 (limit + 1) result.steps (omega arith) (omega arith) (ap is_some is) (none_before font symbols result is) in
    rw found (rw is refl)

of_found : (font : FontValue) (symbols : List Symbol) (limit : ℕ) (result : Setting) (o : Option ℕ)
    → IfSome o (λ k. (k < 0 + (limit + 1)) × (has_result font symbols k ≡ true)) → option_and_then (setting_from font symbols) o ≡ Some result
    → IsResultFrom font symbols result × (result.steps ≤ limit)
of_found font symbols limit result None h e = absurd (search rules)
of_found font symbols limit result (Some k) h e = by (result_from font symbols k) refl e
  where
    by : (o : Option (List Item)) → result_from font symbols k ≡ o → option_map (λ items. setting k items) o ≡ Some result
        → IsResultFrom font symbols result × (result.steps ≤ limit)
    by None is e' = absurd (search rules)
    by (Some items) is e' =
        let whole : setting k items ≡ result = grind (arith, e') in
        let family : Setting → Type 0 = λ r. IsResultFrom font symbols r × (r.steps ≤ limit) in
        subst family whole (is, omega (arith, h.0))

none_at : (font : FontValue) (symbols : List Symbol) (limit n : ℕ) (o : Option (List Item)) → result_from font symbols n ≡ o
    → result_within font symbols limit ≡ None → n ≤ limit → o ≡ None
none_at font symbols limit n None is none within = refl
none_at font symbols limit n (Some items) is none within =
    let found : result_within font symbols limit ≡ Some (setting n items) = found_result font symbols limit (setting n items) is within in
    absurd (grind (arith, found, none))

-- Law: the result within a limit is the result of the symbols if that takes no more steps than the limit, and
-- there is none otherwise
pub finds_result_from : (font : FontValue) (symbols : List Symbol) (limit : ℕ) → FindsResultFrom font symbols limit
unfolding result_within
finds_result_from font symbols limit = record {
  found = λ result is within. found_result font symbols limit result is within;
  is_result = λ result found. of_found font symbols limit result (find (has_result font symbols) (range_with_len 0 (limit + 1)))
      (found_in_range (has_result font symbols) 0 (limit + 1)) found;
  none = λ never. ap (option_and_then (setting_from font symbols))
      (find_none (has_result font symbols) 0 (limit + 1) (λ k from below. ap is_some (never k (omega arith))));
  none_within = λ none n within. none_at font symbols limit n (result_from font symbols n) refl none within;
}

-- Law: the same for a run with the left boundary
pub finds_result : (font : FontValue) (run : List ℕ) (right : Bool) (limit : ℕ) → FindsResult font run right limit
finds_result font run right limit = finds_result_from font (symbols_of font run right) limit

-- ---- no matches

tail_no_matches : (font : FontValue) (current : Symbol) (ahead : List Symbol) → HasNoMatches font (current ∷ ahead) → HasNoMatches font ahead
tail_no_matches font current ahead none = λ i one other at at'.
    let next : i + 1 ≡ suc i = omega arith in
    none (suc i) one other at (let further : suc i + 1 ≡ suc (i + 1) = omega arith in rw further at')

settles_plainly : (font : FontValue) (done : List Element) (current : Symbol) (ahead : List Symbol) → HasNoMatches font (current ∷ ahead)
    → settled font (length ahead) (at done current ahead) ≡ Some (items_of font (done ++ map of_symbol (current ∷ ahead)))
settles_plainly font done current [] none = settles_last font done current
settles_plainly font done current (next ∷ rest) none =
    settles_next font (length rest) done current next rest (Passes None) (ap plain_of (none 0 current next refl refl))
    ∙ settles_plainly font (done ++ of_symbol current ∷ []) next rest (tail_no_matches font current (next ∷ rest) none)
    ∙ ap (λ elements. Some (items_of font elements)) (append_assoc done (of_symbol current ∷ []) (map of_symbol (next ∷ rest)))

end_is_nothing : (font : FontValue) (right : Bool) → items_of font (map of_symbol (right_end font right)) ≡ []
unfolding right_end items_of
end_is_nothing font right = by right (right_code_of (program_of font.words))
  where
    by : (asked : Bool) (code : Option ℕ) → filter_map (item_of font) (map of_symbol (if asked then option_map_or (λ _. Right ∷ []) code [] else [])) ≡ []
    by false code = refl
    by true None = refl
    by true (Some code) = refl

plain_items_of : (font : FontValue) (run : List ℕ) (end : List Symbol) → items_of font (map of_symbol end) ≡ []
    → items_of font (map of_symbol (Left ∷ map Char run ++ end)) ≡ plain_items font run
unfolding items_of
plain_items_of font [] end nothing = nothing
plain_items_of font (code ∷ codes) end nothing = ap (λ items. CharItem code (character_width font code) ∷ items) (plain_items_of font codes end nothing)

-- Law: a run is set as itself if the font's program has no match for any two neighbours in it; this takes one
-- step for each character, and one more if the right boundary follows the run
pub sets_as_itself : (font : FontValue) (run : List ℕ) (right : Bool) → SetsAsItself font run right
unfolding result_from opening
sets_as_itself font run right = λ none.
    let end = right_end font right in
    let ahead = map Char run ++ end in
    let long : length ahead ≡ length run + length end = omega (arith, length-append (map Char run) end, length-map run Char) in
    ap (λ n. settled font n (at [] Left ahead)) (sym long)
    ∙ settles_plainly font [] Left ahead none
    ∙ ap Some (plain_items_of font run (right_end font right) (end_is_nothing font right))

-- ---- few items

items_no_more : (font : FontValue) (xs : List Element) → length (items_of font xs) ≤ length xs
unfolding items_of
items_no_more font [] = omega arith
items_no_more font (x ∷ xs) = by (item_of font x) (items_no_more font xs)
  where
    by : (o : Option Item) → length (filter_map (item_of font) xs) ≤ length xs → length (cons_option o (filter_map (item_of font) xs)) ≤ suc (length xs)
    by None rest = omega arith
    by (Some item) rest = omega arith

-- a step passes at most two elements
passes_two : (font : FontValue) (current next : Element) → (splice_by (action_at font current next) current next).pass ≤ 2
passes_two font (of_kern amount) next = omega arith
passes_two font (of_symbol current) (of_kern amount) = omega arith
passes_two font (of_symbol current) (of_symbol next) = by (action_between font current next) (between_within font current next)
  where
    at_most_one : (b : Bool) → bit b ≤ 1
    at_most_one true = omega arith
    at_most_one false = omega arith

    by : (action : Option Action) → IfSome action StaysWithin → (splice_by action (of_symbol current) (of_symbol next)).pass ≤ 2
    by None within = omega arith
    by (Some (Kern amount)) within = omega arith
    by (Some (Lig code keep_left keep_right pass)) within = omega (arith, at_most_one keep_left, at_most_one keep_right, within)

step_two : (font : FontValue) (c : Configuration) → IfSome (step_from font c) (λ d. d.cursor ≤ c.cursor + 2)
unfolding step_from
step_two font c = by (slice_get c.elements c.cursor) (slice_get c.elements (c.cursor + 1))
  where
    by : (a b : Option Element) → IfSome (option_and_then (λ current. option_map (λ next. spliced c (splice_by (action_at font current next) current next)) b) a) (λ d. d.cursor ≤ c.cursor + 2)
    by None b = tt
    by (Some current) None = tt
    by (Some current) (Some next) = omega (arith, passes_two font current next)

after_two : (font : FontValue) (n : ℕ) (c : Configuration) → IfSome (after_steps font n c) (λ d. d.cursor ≤ c.cursor + 2 * n)
unfolding after_steps
after_two font zero c = omega arith
after_two font (suc n) c = by (step_from font c) (step_two font c) (λ d. after_two font n d)
  where
    more : (k : ℕ) (o : Option Configuration) → k ≤ c.cursor + 2 → IfSome o (λ d. d.cursor ≤ k + 2 * n) → IfSome o (λ d. d.cursor ≤ c.cursor + 2 * suc n)
    more k None first rest = tt
    more k (Some d) first rest = omega (arith, first, rest)

    by : (o : Option Configuration) → IfSome o (λ d. d.cursor ≤ c.cursor + 2) → ((d : Configuration) → IfSome (after_steps font n d) (λ e. e.cursor ≤ d.cursor + 2 * n))
        → IfSome (option_and_then (after_steps font n) o) (λ d. d.cursor ≤ c.cursor + 2 * suc n)
    by None first onward = tt
    by (Some d) first onward = more d.cursor (after_steps font n d) first (onward d)

-- Law: a result of n steps has at most 2n + 1 items
pub few_items : (font : FontValue) (run : List ℕ) (right : Bool) → HasFewItems font run right
unfolding result_from opening
few_items font run right = λ set is.
    by set.steps set.items (after_steps font set.steps (opening (symbols_of font run right))) (after_two font set.steps (opening (symbols_of font run right))) is
  where
    final : (n : ℕ) (items : List Item) (d : Configuration) → d.cursor ≤ 2 * n → (b : Bool) → is_final d ≡ b
        → (if b then Some (items_of font d.elements) else None) ≡ Some items → length items ≤ 2 * n + 1
    final n items d low true e e' =
        let same : items_of font d.elements ≡ items = grind (arith, e') in
        omega (arith, items_no_more font d.elements, leb-true (length d.elements) (d.cursor + 1) e, ap length same, low)
    final n items d low false e e' = absurd (cc)

    by : (n : ℕ) (items : List Item) (o : Option Configuration) → IfSome o (λ d. d.cursor ≤ 0 + 2 * n) → option_and_then (final_items font) o ≡ Some items
        → length items ≤ 2 * n + 1
    by n items None low e = absurd (cc)
    by n items (Some d) low e = final n items d (omega (arith, low)) (is_final d) refl e
