-- The box of a line: its characters, one after the other, and the number of its spaces.
use Rattle.std.proofs.Common.{◌≡◌, ℕ, zero, suc, ◌+◌, ◌<◌, Bool, true, false, ℤ, pos, List, [], ◌∷◌, ◌++◌, Option, Some, None, arith, append_assoc, length, map, take, get_or, ap, sym, refl, ◌∙◌}
use Rattle.std.specs.Prelude.{IfSome, OnOk, Result, Ok, Err, codes, cond, decimal, is_ok, is_some, ◌&&◌, if◌then◌else◌}
use Rattle.std.specs.Int.{int_max}
use Rattle.std.specs.List.{count_by}
use Rattle.std.specs.Option.{option_and_then, option_map}
use Rattle.std.proofs.Math.IntN.{+ℤ_idr}
use Rattle.std.proofs.lemmas.Int.{to_z-of_z}
use Rattle.std.proofs.lemmas.List.{map-append, take_more}
use Rattle.std.proofs.lemmas.List.Sums.{count_by-le-length, fold-append, sum_by-append}
use Rattle.run_plan.specs.declared.policy.Policy.{Policy}
use Rattle.run_plan.specs.declared.policy.Policy.TheVariants.{Refuse, Skip}
use Rattle.tfm_tables.specs.Character.{exists}
use Rattle.tfm_tables.specs.Font.{FontValue}
use Rattle.tfm_tables.specs.Measure.{parameter_of}
use Rattle.tfm_tables.specs.Program.{program_of, right_code_of}
use Rattle.lig_kern.specs.declared.symbol.Symbol.{Symbol}
use Rattle.lig_kern.specs.declared.symbol.Symbol.TheVariants.{Left, Char, Right}
use Rattle.lig_kern.specs.declared.action.Action.{Action}
use Rattle.lig_kern.specs.declared.plainly.Plain.{Plain}
use Rattle.lig_kern.specs.declared.plainly.Plain.TheVariants.{Passes, Replaces}
use Rattle.lig_kern.specs.declared.item.Item.{Item}
use Rattle.lig_kern.specs.declared.item.Item.TheVariants.{Skipped, Space}
use Rattle.lig_kern.specs.Matching.{action_between}
use Rattle.lig_kern.specs.Plain.{plain_next, plain_of, plain_sent}
use Rattle.lig_kern.specs.Rewriting.{Element, items_of, of_kern, of_symbol}
use Rattle.lig_kern.specs.Result.{Setting}
use Rattle.set_line.specs.Pieces.{is_space}
use Rattle.set_line.specs.Width.{total_width}
use Rattle.line_records.specs.Additions.{Addition, after, alone, boundary_by, byte_added, cut_added, ended_by, ending_of, one_step, set_from, skip_by, step_by, with_cut}
use Rattle.line_records.specs.Boxes.{box_record, is_glue, is_skipped, largest}
use Rattle.line_records.proofs.AddingLemmas.{skipped-append, total_width-append}

pub next_largest : (f : ℕ → ℤ) (codes : List ℕ) (i d : ℕ) (so_far : ℤ) → i < length codes → so_far ≡ largest (map f (take i codes))
    → int_max so_far (f (get_or codes i d)) ≡ largest (map f (take (i + 1) codes))
next_largest f codes i d so_far within is =
    ap (λ a. int_max a (f (get_or codes i d))) is
    ∙ sym (ap (λ xs. largest (map f xs)) (take_more codes i d within) ∙ ap largest (map-append f (take i codes) (get_or codes i d ∷ []))
    ∙ fold-append int_max (pos 0) (map f (take i codes)) (f (get_or codes i d) ∷ []))

-- ---- texts

pub ruleset boxes = (to_z-of_z, append_assoc)

pub record_pushed : {T E : Type 0} (r : Result T E) (source place : ℕ) (text before a b c d after : List ℕ) → a ≡ before ++ [] ++ decimal source
    → b ≡ a ++ codes ":" ++ decimal place → c ≡ b ++ codes " box" → d ≡ c ++ text → after ≡ (if is_ok r then d ++ codes "\n" else d)
    → OnOk r (after ≡ before ++ box_record source place text)
record_pushed (Ok t) source place text before a b c d after one two three four is =
    is ∙ ap (λ xs. xs ++ codes "\n") (four ∙ ap (λ xs. xs ++ text) (three ∙ ap (λ xs. xs ++ codes " box") (two ∙ ap (λ xs. xs ++ codes ":" ++ decimal place) one)))
    ∙ simp append_assoc
record_pushed (Err e) source place text before a b c d after one two three four is = tt

-- ---- more items

pub spaces-append : (xs ys : List Item) → count_by is_glue (xs ++ ys) ≡ count_by is_glue xs + count_by is_glue ys
spaces-append xs ys = sum_by-append (λ item. cond (is_glue item) 1 0) xs ys

-- a character without codes adds nothing but a skipped item
pub gap_width : (items : List Item) (number : ℕ) → total_width (items ++ Skipped number ∷ []) ≡ total_width items
gap_width items number = total_width-append items (Skipped number ∷ []) ∙ +ℤ_idr (total_width items)

pub gap_spaces : (items : List Item) (number : ℕ) → count_by is_glue (items ++ Skipped number ∷ []) ≡ count_by is_glue items
gap_spaces items number = spaces-append items (Skipped number ∷ []) ∙ omega arith

pub gap_skipped : (items : List Item) (number : ℕ) → count_by is_skipped (items ++ Skipped number ∷ []) ≡ count_by is_skipped items + 1
gap_skipped items number = skipped-append items (Skipped number ∷ [])

pub ruleset counted = (count_by-le-length)

-- ---- the spaces of a line that is set byte by byte

-- an addition with this number of spaces
abbrev HasSpaces : ℕ → Addition → Type 0
HasSpaces n added = count_by is_glue added.items ≡ n

no_spaces : (font : FontValue) (elements : List Element) → count_by is_glue (items_of font elements) ≡ 0
unfolding items_of
no_spaces font [] = refl
no_spaces font (of_symbol Left ∷ elements) = no_spaces font elements
no_spaces font (of_symbol (Char code) ∷ elements) = no_spaces font elements
no_spaces font (of_symbol Right ∷ elements) = no_spaces font elements
no_spaces font (of_kern amount ∷ elements) = no_spaces font elements

step_spaces : (font : FontValue) (action : Option Action) (current next : Symbol) → IfSome (step_by font action current next) (HasSpaces 0)
step_spaces font action current next = by (plain_of action)
  where
    by : (o : Option Plain) → IfSome (option_map (λ plain. one_step (items_of font (plain_sent plain current)) (plain_next plain next)) o) (HasSpaces 0)
    by None = tt
    by (Some plain) = no_spaces font (plain_sent plain current)

boundary_spaces : (font : FontValue) (action : Option Action) (current : Symbol) → IfSome (boundary_by font action current) (HasSpaces 0)
boundary_spaces font action current = by (plain_of action)
  where
    by : (o : Option Plain) → IfSome (option_and_then (ended_by font current) o) (HasSpaces 0)
    by None = tt
    by (Some (Passes kern)) = no_spaces font (plain_sent (Passes kern) current)
    by (Some (Replaces code)) = tt

ending_spaces : (font : FontValue) (right : Bool) (current : Symbol) → IfSome (ending_of font right current) (HasSpaces 0)
unfolding ending_of
ending_spaces font right Left = refl
ending_spaces font right Right = tt
ending_spaces font right (Char code) = by (right && is_some (right_code_of (program_of font.words)))
  where
    by : (b : Bool)
        → IfSome (if b then boundary_by font (action_between font (Char code) Right) (Char code) else Some (record { steps = 0; items = items_of font (of_symbol (Char code) ∷ []); current = Char code })) (HasSpaces 0)
    by true = boundary_spaces font (action_between font (Char code) Right) (Char code)
    by false = no_spaces font (of_symbol (Char code) ∷ [])

cut_spaces : (font : FontValue) (right : Bool) (cut : Item) (current : Symbol) → IfSome (cut_added font right cut current) (HasSpaces (count_by is_glue (cut ∷ [])))
unfolding cut_added
cut_spaces font right cut current = by (ending_of font right current) (ending_spaces font right current)
  where
    by : (o : Option Addition) → IfSome o (HasSpaces 0) → IfSome (option_map (with_cut cut) o) (HasSpaces (count_by is_glue (cut ∷ [])))
    by None none = tt
    by (Some ending) none = omega (arith, spaces-append ending.items (cut ∷ []), none)

byte_spaces : (font : FontValue) (policy : Policy) (current : Symbol) (byte : ℕ) → IfSome (byte_added font policy current byte) (HasSpaces (count_by is_space (byte ∷ [])))
unfolding byte_added
byte_spaces font policy current byte = by policy (is_space byte) (exists font.words byte)
  where
    by : (policy : Policy) (space there : Bool)
        → IfSome (if space then cut_added font true (Space (parameter_of font.words font.size 2)) current
        else (if there then step_by font (action_between font current (Char byte)) current (Char byte) else skip_by policy (cut_added font false (Skipped byte) current)))
        (HasSpaces (0 + cond space 1 0))
    by policy true there = cut_spaces font true (Space (parameter_of font.words font.size 2)) current
    by policy false true = step_spaces font (action_between font current (Char byte)) current (Char byte)
    by Skip false false = cut_spaces font false (Skipped byte) current
    by Refuse false false = tt

spaces_from : (font : FontValue) (policy : Policy) (current : Symbol) (line : List ℕ)
    → IfSome (set_from font policy current line) (λ set. count_by is_glue set.items ≡ count_by is_space line)
unfolding set_from
spaces_from font policy current [] = by (ending_of font true current) (ending_spaces font true current)
  where
    by : (o : Option Addition) → IfSome o (HasSpaces 0) → IfSome (option_map alone o) (λ set. count_by is_glue set.items ≡ 0)
    by None none = tt
    by (Some ending) none = none
spaces_from font policy current (byte ∷ bytes) = by (byte_added font policy current byte) (byte_spaces font policy current byte) (λ symbol. spaces_from font policy symbol bytes)
  where
    more : (added : Addition) (o : Option Setting) → HasSpaces (count_by is_space (byte ∷ [])) added → IfSome o (λ set. count_by is_glue set.items ≡ count_by is_space bytes)
        → IfSome (option_map (after added) o) (λ set. count_by is_glue set.items ≡ count_by is_space (byte ∷ bytes))
    more added None here later = tt
    more added (Some set) here later =
        spaces-append added.items set.items ∙ ap (λ n. n + count_by is_glue set.items) here ∙ ap (λ n. count_by is_space (byte ∷ []) + n) later
        ∙ sym (sum_by-append (λ code. cond (is_space code) 1 0) (byte ∷ []) bytes)

    by : (o : Option Addition) → IfSome o (HasSpaces (count_by is_space (byte ∷ []))) → ((symbol : Symbol) → IfSome (set_from font policy symbol bytes) (λ set. count_by is_glue set.items ≡ count_by is_space bytes))
        → IfSome (option_and_then (λ added. option_map (after added) (set_from font policy added.current bytes)) o) (λ set. count_by is_glue set.items ≡ count_by is_space (byte ∷ bytes))
    by None here later = tt
    by (Some added) here later = more added (set_from font policy added.current bytes) here (later added.current)

-- Law: a line that is set byte by byte has as many spaces as bytes 32
pub line_spaces : (font : FontValue) (policy : Policy) (current : Symbol) (line : List ℕ) (set : Setting) → set_from font policy current line ≡ Some set
    → count_by is_glue set.items ≡ count_by is_space line
line_spaces font policy current line set is = rw is at (spaces_from font policy current line)
