-- The setting of a run, byte by byte, is its result.
use Rattle.std.proofs.Common.{◌≡◌, ℕ, suc, ◌+◌, Bool, true, false, List, [], ◌∷◌, ◌++◌, map, Option, Some, None, arith, refl, ap, sym, subst, ◌∙◌, append_assoc, append-nil}
use Rattle.std.specs.Prelude.{◌&&◌, if◌then◌else◌, is_some}
use Rattle.std.specs.Option.{option_and_then, option_map, option_map_or}
use Rattle.tfm_tables.specs.Font.{FontValue}
use Rattle.tfm_tables.specs.Program.{program_of, right_code_of}
use Rattle.lig_kern.specs.declared.symbol.Symbol.{Symbol}
use Rattle.lig_kern.specs.declared.symbol.Symbol.TheVariants.{Left, Char, Right}
use Rattle.lig_kern.specs.declared.item.Item.{Item}
use Rattle.lig_kern.specs.declared.plainly.Plain.{Plain}
use Rattle.lig_kern.specs.declared.plainly.Plain.TheVariants.{Passes, Replaces}
use Rattle.lig_kern.specs.Matching.{action_between}
use Rattle.lig_kern.specs.Plain.{plain_next, plain_of, plain_sent}
use Rattle.lig_kern.specs.Rewriting.{Element, of_symbol, items_of, opening, right_end}
use Rattle.lig_kern.specs.Result.{Setting, IsResultOf, result_from}
use Rattle.lig_kern.proofs.PlainLemmas.{at, items_of-append, settles_last, settles_next}
use Rattle.lig_kern.proofs.Steps.{settled}
use Rattle.set_line.specs.Onward.{setting}
use Rattle.line_records.specs.Additions.{Addition, after, alone, boundary_by, ended_by, ending_of, one_step}
use Rattle.line_records.specs.Runs.{char_added, run_from}

-- ---- options

-- a chain that has a value has one at each link
pub chained : {A B : Type 0} (f : A → Option B) (o : Option A) (b : B) → option_and_then f o ≡ Some b → (a : A) × (o ≡ Some a) × (f a ≡ Some b)
chained f None b is = absurd (cc)
chained f (Some a) b is = (a, refl, is)

pub mapped : {A B : Type 0} (f : A → B) (o : Option A) (b : B) → option_map f o ≡ Some b → (a : A) × (o ≡ Some a) × (f a ≡ b)
mapped f None b is = absurd (cc)
mapped f (Some a) b is = (a, refl, cc)

-- ---- one step

-- this many steps from a current symbol and the symbols ahead of it lead to the end of the run, and append these items
abbrev Settles : FontValue → ℕ → Symbol → List Symbol → List Item → Type 0
Settles font n current ahead items = (done : List Element) → settled font n (at done current ahead) ≡ Some (items_of font done ++ items)

-- one step of which the action is plain, before others
settles_on : (font : FontValue) (current next : Symbol) (ahead : List Symbol) (plain : Plain) (n : ℕ) (items : List Item)
    → plain_of (action_between font current next) ≡ Some plain → Settles font n (plain_next plain next) ahead items
    → Settles font (suc n) current (next ∷ ahead) (items_of font (plain_sent plain current) ++ items)
settles_on font current next ahead plain n items is rest done =
    settles_next font n done current next ahead plain is
    ∙ rest (done ++ plain_sent plain current)
    ∙ ap (λ sent. Some (sent ++ items)) (items_of-append font done (plain_sent plain current))
    ∙ ap Some (append_assoc (items_of font done) (items_of font (plain_sent plain current)) items)

settles_here : (font : FontValue) (current : Symbol) → Settles font 0 current [] (items_of font (of_symbol current ∷ []))
settles_here font current done = settles_last font done current ∙ ap Some (items_of-append font done (of_symbol current ∷ []))

-- ---- the end of a run

ends_by : (font : FontValue) (code : ℕ) (added : Addition) (o : Option Plain) → plain_of (action_between font (Char code) Right) ≡ o
    → option_and_then (ended_by font (Char code)) o ≡ Some added → Settles font added.steps (Char code) (Right ∷ []) added.items
unfolding items_of
ends_by font code added None is end = absurd (cc)
ends_by font code added (Some (Replaces code')) is end = absurd (cc)
ends_by font code added (Some (Passes kern)) is end =
    let same : one_step (items_of font (plain_sent (Passes kern) (Char code))) Right ≡ added = cc in
    subst (λ a. Settles font a.steps (Char code) (Right ∷ []) a.items) same
    (subst (λ items. Settles font 1 (Char code) (Right ∷ []) items) (append-nil (items_of font (plain_sent (Passes kern) (Char code))))
    (settles_on font (Char code) Right [] (Passes kern) 0 [] is (settles_here font Right)))

run_ends : (font : FontValue) (right : Bool) (code : ℕ) (added : Addition) → ending_of font right (Char code) ≡ Some added
    → Settles font added.steps (Char code) (right_end font right) added.items
unfolding ending_of right_end
run_ends font right code added is = by right (right_code_of (program_of font.words)) is
  where
    here : record { steps = 0; items = items_of font (of_symbol (Char code) ∷ []); current = Char code } ≡ added → Settles font added.steps (Char code) [] added.items
    here same = subst (λ (a : Addition). Settles font a.steps (Char code) [] a.items) same (settles_here font (Char code))

    by : (asked : Bool) (o : Option ℕ)
        → (if asked && is_some o then boundary_by font (action_between font (Char code) Right) (Char code) else Some (record { steps = 0; items = items_of font (of_symbol (Char code) ∷ []); current = Char code })) ≡ Some added
        → Settles font added.steps (Char code) (if asked then option_map_or (λ _. Right ∷ []) o [] else []) added.items
    by false o e = here (grind (arith, e))
    by true None e = here (grind (arith, e))
    by true (Some boundary) e = ends_by font code added (plain_of (action_between font (Char code) Right)) refl e

-- ---- all steps

-- a character is current after a plain step to a character
char_next : (plain : Plain) (byte : ℕ) → (c : ℕ) × (plain_next plain (Char byte) ≡ Char c)
char_next (Passes kern) byte = (byte, refl)
char_next (Replaces code) byte = (code, refl)

-- the rest of a run after one more character
further : (font : FontValue) (right : Bool) (current : Symbol) (byte : ℕ) (bytes : List ℕ) (set : Setting)
    → ((c : ℕ) (more : Setting) → run_from font right (Char c) bytes ≡ Some more → Settles font more.steps (Char c) (map Char bytes ++ right_end font right) more.items)
    → run_from font right current (byte ∷ bytes) ≡ Some set
    → Settles font set.steps current (Char byte ∷ map Char bytes ++ right_end font right) set.items
unfolding run_from
further font right current byte bytes set finishes is =
    let first = chained _ (char_added font current byte) set is in
    let step = mapped _ (plain_of (action_between font current (Char byte))) first.0 first.1 in
    let rest = mapped (after first.0) (run_from font right first.0.current bytes) set first.2 in
    let code = char_next step.0 byte in
    let now : first.0.current ≡ Char code.0 = ap (λ (a : Addition). a.current) (sym step.2) ∙ code.1 in
    let there : Settles font rest.0.steps (Char code.0) (map Char bytes ++ right_end font right) rest.0.items =
    finishes code.0 rest.0 (ap (λ symbol. run_from font right symbol bytes) (sym now) ∙ rest.1) in
    let all : Settles font (suc rest.0.steps) current (Char byte ∷ map Char bytes ++ right_end font right) (items_of font (plain_sent step.0 current) ++ rest.0.items) =
    settles_on font current (Char byte) (map Char bytes ++ right_end font right) step.0 rest.0.steps rest.0.items step.1
    (subst (λ symbol. Settles font rest.0.steps symbol (map Char bytes ++ right_end font right) rest.0.items) (sym code.1) there) in
    let whole : setting (suc rest.0.steps) (items_of font (plain_sent step.0 current) ++ rest.0.items) ≡ set =
    ap (λ n. setting n (items_of font (plain_sent step.0 current) ++ rest.0.items)) {x = suc rest.0.steps} {y = 1 + rest.0.steps} (omega arith)
    ∙ ap (λ a. after a rest.0) step.2 ∙ rest.2 in
    subst (λ (s : Setting). Settles font s.steps current (Char byte ∷ map Char bytes ++ right_end font right) s.items) whole all

run_finishes : (font : FontValue) (right : Bool) (code : ℕ) (bytes : List ℕ) (set : Setting) → run_from font right (Char code) bytes ≡ Some set
    → Settles font set.steps (Char code) (map Char bytes ++ right_end font right) set.items
unfolding run_from
run_finishes font right code [] set is =
    let end = mapped alone (ending_of font right (Char code)) set is in
    subst (λ (s : Setting). Settles font s.steps (Char code) (right_end font right) s.items) end.2 (run_ends font right code end.0 end.1)
run_finishes font right code (byte ∷ bytes) set is =
    further font right (Char code) byte bytes set (λ c more. run_finishes font right c bytes more) is

-- the setting of a whole run is its result
pub run_result : (font : FontValue) (right : Bool) (byte : ℕ) (bytes : List ℕ) (set : Setting) → run_from font right Left (byte ∷ bytes) ≡ Some set
    → IsResultOf font (byte ∷ bytes) right set
unfolding result_from opening items_of
run_result font right byte bytes set is =
    further font right Left byte bytes set (λ c more. run_finishes font right c bytes more) is []

-- an empty run adds nothing
pub run_empty : (font : FontValue) (right : Bool) (set : Setting) → run_from font right Left [] ≡ Some set → setting 0 [] ≡ set
unfolding run_from ending_of
run_empty font right set is = cc
