-- The setting of a line, byte by byte, is the one that set_line defines.
use Rattle.std.proofs.Common.{◌≡◌, ℕ, ◌+◌, ◌<◌, ◌≤◌, Bool, true, false, List, [], ◌∷◌, ◌++◌, length, Option, Some, None, arith, refl, ap, sym, ◌∙◌, append-nil, append_assoc}
use Rattle.std.specs.Prelude.{cond, filter, not, ◌||◌, ◌&&◌}
use Rattle.std.specs.List.{onto_first, slice_split}
use Rattle.std.specs.Option.{option_and_then, option_map}
use Rattle.std.proofs.lemmas.List.Splits.{length-slice_split}
use Rattle.run_plan.specs.declared.policy.Policy.{Policy}
use Rattle.run_plan.specs.declared.policy.Policy.TheVariants.{Refuse, Skip}
use Rattle.tfm_tables.specs.Font.{FontValue}
use Rattle.tfm_tables.specs.Character.{exists}
use Rattle.lig_kern.specs.declared.symbol.Symbol.{Symbol}
use Rattle.lig_kern.specs.declared.symbol.Symbol.TheVariants.{Left}
use Rattle.lig_kern.specs.declared.item.Item.{Item}
use Rattle.lig_kern.specs.Result.{Setting}
use Rattle.set_line.specs.Answer.{has_refused, is_refused, setting_of}
use Rattle.set_line.specs.Onward.{onward, setting}
use Rattle.set_line.specs.Pieces.{cut_with, is_cut, is_space, pieces_of, portion_of, portions_in, run_of}
use Rattle.set_line.specs.Terms.{TermsValue}
use Rattle.set_line.proofs.OnwardLemmas.{part_then, run_set}
use Rattle.set_line.proofs.OnwardLemmas as Onwards
use Rattle.line_records.specs.Additions.{Addition, after, alone, byte_added, cut_added, ending_of, set_from, with_cut}
use Rattle.line_records.specs.Kept.{set_after}
use Rattle.line_records.specs.Results.{only_part}
use Rattle.line_records.specs.Runs.{added_run, char_added, item_at, run_from, runs_from}
use Rattle.line_records.proofs.KeptLemmas.{codes_set}
use Rattle.line_records.proofs.RunLemmas.{chained, mapped, run_empty, run_result}

-- ---- runs and the bytes between them

-- the optional setting of runs, of which the first has this optional setting and ends with this item
abbrev first_and : Item → Option Setting → Option Setting → Option Setting
first_and cut first others = option_and_then (λ set. option_map (after (with_cut cut (added_run set))) others) first

-- an addition in front of the first run
onto_run : (cut : Item) (added : Addition) (first others : Option Setting)
    → first_and cut (option_map (after added) first) others ≡ option_map (after added) (first_and cut first others)
onto_run cut added None others = refl
onto_run cut added (Some set) None = refl
onto_run cut added (Some set) (Some more) =
    let steps : (added.steps + set.steps) + more.steps ≡ added.steps + (set.steps + more.steps) = omega arith in
    let items : ((added.items ++ set.items) ++ cut ∷ []) ++ more.items ≡ added.items ++ ((set.items ++ cut ∷ []) ++ more.items) = simp append_assoc in
    ap (λ n. Some (setting n (((added.items ++ set.items) ++ cut ∷ []) ++ more.items))) steps
    ∙ ap (λ xs. Some (setting (added.steps + (set.steps + more.steps)) xs)) items

-- an addition before each value
onto_first_run : (cut : Item) (o : Option Addition) (first : Addition → Option Setting) (others : Option Setting)
    → first_and cut (option_and_then (λ added. option_map (after added) (first added)) o) others
    ≡ option_and_then (λ added. option_map (after added) (first_and cut (first added) others)) o
onto_first_run cut None first others = refl
onto_first_run cut (Some added) first others = onto_run cut added (first added) others

-- a character in front of the first run
one_byte : (font : FontValue) (current : Symbol) (byte : ℕ) (runs : List (List ℕ)) (cuts : List ℕ) → 0 < length runs
    → runs_from font current (onto_first byte runs) cuts
    ≡ option_and_then (λ added. option_map (after added) (runs_from font added.current runs cuts)) (char_added font current byte)
unfolding runs_from run_from
one_byte font current byte [] cuts some = absurd (omega arith)
one_byte font current byte (run ∷ runs) [] some = refl
one_byte font current byte (run ∷ runs) (cut ∷ cuts) some =
    onto_first_run (item_at font cut) (char_added font current byte) (λ added. run_from font (is_space cut) added.current run) (runs_from font Left runs cuts)

-- a byte that ends a run in front of runs
one_cut : (font : FontValue) (current : Symbol) (cut : ℕ) (runs : List (List ℕ)) (cuts : List ℕ)
    → runs_from font current ([] ∷ runs) (cut ∷ cuts)
    ≡ option_and_then (λ added. option_map (after added) (runs_from font added.current runs cuts)) (cut_added font (is_space cut) (item_at font cut) current)
unfolding runs_from run_from cut_added
one_cut font current cut runs cuts = by (ending_of font (is_space cut) current) (λ symbol. runs_from font symbol runs cuts)
  where
    by : (o : Option Addition) (others : Symbol → Option Setting)
        → first_and (item_at font cut) (option_map alone o) (others Left)
        ≡ option_and_then (λ added. option_map (after added) (others added.current)) (option_map (with_cut (item_at font cut)) o)
    by None others = refl
    by (Some ending) others = refl

-- ---- what a byte adds, by its kind

at_cut : (font : FontValue) (policy : Policy) (current : Symbol) (byte : ℕ) → is_refused policy font byte ≡ false → is_cut font byte ≡ true
    → byte_added font policy current byte ≡ cut_added font (is_space byte) (item_at font byte) current
unfolding byte_added
at_cut font policy current byte kept cut = by policy kept (is_space byte) refl (exists font.words byte) refl
  where
    by : (p : Policy) → is_refused p font byte ≡ false → (s : Bool) → is_space byte ≡ s → (e : Bool) → exists font.words byte ≡ e
        → byte_added font p current byte ≡ cut_added font (is_space byte) (item_at font byte) current
    by p kept true space e there = rw space refl
    by p kept false other true there = absurd (bad (rw other at (rw there at cut)))
      where
        bad : false ≡ true → ⊥
        bad = cc
    by Skip kept false other false missing = rw other (rw missing refl)
    by Refuse kept false other false missing = absurd (bad (rw other at (rw missing at kept)))
      where
        bad : true ≡ false → ⊥
        bad = cc

in_run : (font : FontValue) (policy : Policy) (current : Symbol) (byte : ℕ) → is_cut font byte ≡ false → byte_added font policy current byte ≡ char_added font current byte
unfolding byte_added
in_run font policy current byte whole = by (is_space byte) refl (exists font.words byte) refl
  where
    by : (s : Bool) → is_space byte ≡ s → (e : Bool) → exists font.words byte ≡ e → byte_added font policy current byte ≡ char_added font current byte
    by true space e there = absurd (bad (rw space at whole))
      where
        bad : true ≡ false → ⊥
        bad = cc
    by false other true there = rw other (rw there refl)
    by false other false missing = absurd (bad (rw other at (rw missing at whole)))
      where
        bad : true ≡ false → ⊥
        bad = cc

byte_kept : (policy : Policy) (font : FontValue) (current : Symbol) (byte : ℕ) (added : Addition) → byte_added font policy current byte ≡ Some added
    → is_refused policy font byte ≡ false
unfolding byte_added
byte_kept Skip font current byte added is = refl
byte_kept Refuse font current byte added is = by (is_space byte) refl (exists font.words byte) refl is
  where
    by : (s : Bool) → is_space byte ≡ s → (e : Bool) → exists font.words byte ≡ e → byte_added font Refuse current byte ≡ Some added → not s && not e ≡ false
    by true space e there is = refl
    by false other true there is = refl
    by false other false missing is = absurd (bad (rw other at (rw missing at is)))
      where
        bad : None ≡ Some added → ⊥
        bad = cc

-- ---- the line

none_refused : (font : FontValue) (policy : Policy) (current : Symbol) (line : List ℕ) (set : Setting) → set_from font policy current line ≡ Some set
    → has_refused policy font line ≡ false
unfolding set_from
none_refused font policy current [] set is = refl
none_refused font policy current (byte ∷ bytes) set is =
    let first = chained _ (byte_added font policy current byte) set is in
    let rest = mapped (after first.0) (set_from font policy first.0.current bytes) set first.2 in
    rw (byte_kept policy font current byte first.0 first.1) (none_refused font policy first.0.current bytes rest.0 rest.1)

-- a line byte by byte is its runs with the bytes between them
in_runs : (font : FontValue) (policy : Policy) (current : Symbol) (line : List ℕ) → has_refused policy font line ≡ false
    → set_from font policy current line ≡ runs_from font current (slice_split (is_cut font) line) (filter (is_cut font) line)
unfolding set_from runs_from run_from
in_runs font policy current [] kept = refl
in_runs font policy current (byte ∷ bytes) kept =
    by (is_refused policy font byte) refl kept (is_cut font byte) refl (λ rest symbol. in_runs font policy symbol bytes rest)
  where
    all : (o : Option Addition) → ((symbol : Symbol) → set_from font policy symbol bytes ≡ runs_from font symbol (slice_split (is_cut font) bytes) (filter (is_cut font) bytes))
        → option_and_then (λ added. option_map (after added) (set_from font policy added.current bytes)) o
        ≡ option_and_then (λ added. option_map (after added) (runs_from font added.current (slice_split (is_cut font) bytes) (filter (is_cut font) bytes))) o
    all None rest = refl
    all (Some added) rest = ap (option_map (after added)) (rest added.current)

    by : (r : Bool) → is_refused policy font byte ≡ r → (r || has_refused policy font bytes) ≡ false → (c : Bool) → is_cut font byte ≡ c
        → (has_refused policy font bytes ≡ false → (symbol : Symbol) → set_from font policy symbol bytes ≡ runs_from font symbol (slice_split (is_cut font) bytes) (filter (is_cut font) bytes))
        → option_and_then (λ added. option_map (after added) (set_from font policy added.current bytes)) (byte_added font policy current byte)
        ≡ runs_from font current (cond c ([] ∷ slice_split (is_cut font) bytes) (onto_first byte (slice_split (is_cut font) bytes))) (cond c (byte ∷ filter (is_cut font) bytes) (filter (is_cut font) bytes))
    by true is bad c cut later = absurd (cc)
    by false is rest true cut later =
        all (byte_added font policy current byte) (later rest)
        ∙ ap (option_and_then (λ added. option_map (after added) (runs_from font added.current (slice_split (is_cut font) bytes) (filter (is_cut font) bytes)))) (at_cut font policy current byte is cut)
        ∙ sym (one_cut font current byte (slice_split (is_cut font) bytes) (filter (is_cut font) bytes))
    by false is rest false whole later =
        all (byte_added font policy current byte) (later rest)
        ∙ ap (option_and_then (λ added. option_map (after added) (runs_from font added.current (slice_split (is_cut font) bytes) (filter (is_cut font) bytes)))) (in_run font policy current byte whole)
        ∙ sym (one_byte font current byte (slice_split (is_cut font) bytes) (filter (is_cut font) bytes) (omega (arith, length-slice_split (is_cut font) bytes)))

-- ---- one run as a portion of a line

run_onward : (font : FontValue) (right : Bool) (limit used : ℕ) (before : List Item) (bytes : List ℕ) (set : Setting)
    → run_from font right Left bytes ≡ Some set → used + set.steps ≤ limit
    → onward font limit (setting used before) (run_of bytes right) ≡ Some (setting (used + set.steps) (before ++ set.items))
run_onward font right limit used before [] set is within =
    let none : setting 0 [] ≡ set = run_empty font right set is in
    let steps : used ≡ used + set.steps = omega (arith, ap (λ s. s.steps) none) in
    let items : before ≡ before ++ set.items = sym (append-nil before) ∙ ap (λ (s : Setting). before ++ s.items) none in
    Onwards.run_empty font limit (setting used before) [] right refl
    ∙ ap (λ n. Some (setting n before)) steps ∙ ap (λ xs. Some (setting (used + set.steps) xs)) items
run_onward font right limit used before (byte ∷ bytes) set is within =
    run_set font limit used set.steps before (before ++ set.items) (byte ∷ bytes) right (omega arith) (omega arith)
    (record { items = set.items; result = run_result font right byte bytes set is; within = omega arith; appended = refl })

-- ---- all portions

setting_at : (font : FontValue) (limit cut : ℕ) → setting_of font limit (portion_of cut) ≡ Some (setting 0 (item_at font cut ∷ []))
unfolding setting_of
setting_at font limit cut = by (is_space cut) refl
  where
    by : (s : Bool) → is_space cut ≡ s → setting_of font limit (portion_of cut) ≡ Some (setting 0 (item_at font cut ∷ []))
    by true is = rw is refl
    by false is = rw is refl

runs_onward : (font : FontValue) (limit used : ℕ) (before : List Item) (runs : List (List ℕ)) (cuts : List ℕ) (set : Setting)
    → runs_from font Left runs cuts ≡ Some set → used + set.steps ≤ limit
    → onward font limit (setting used before) (cut_with true runs cuts) ≡ Some (setting (used + set.steps) (before ++ set.items))
unfolding runs_from
runs_onward font limit used before [] cuts set is within = absurd (cc)
runs_onward font limit used before (last ∷ runs) [] set is within = run_onward font true limit used before last set is within
runs_onward font limit used before (run ∷ runs) (cut ∷ cuts) set is within =
    let item : Item = item_at font cut in
    let first = chained _ (run_from font (is_space cut) Left run) set is in
    let one : Setting = first.0 in
    let rest = mapped (after (with_cut item (added_run one))) (runs_from font Left runs cuts) set first.2 in
    let more : Setting = rest.0 in
    let steps : one.steps + more.steps ≡ set.steps = ap (λ s. s.steps) rest.2 in
    let items : (one.items ++ item ∷ []) ++ more.items ≡ set.items = ap (λ s. s.items) rest.2 in
    let reached : onward font limit (setting used before) (run_of run (is_space cut)) ≡ Some (setting (used + one.steps) (before ++ one.items)) =
    run_onward font (is_space cut) limit used before run one first.1 (omega arith) in
    let whole : onward font limit (setting used before) (cut_with true (run ∷ runs) (cut ∷ cuts))
    ≡ onward font limit (setting (used + one.steps) ((before ++ one.items) ++ item ∷ [])) (cut_with true runs cuts) =
    part_then font limit used (used + one.steps) before (before ++ one.items) ((before ++ one.items) ++ item ∷ [])
    (cut_with true (run ∷ runs) (cut ∷ cuts)) (run_of run (is_space cut)) (cut_with true runs cuts) (portion_of cut) item
    refl reached (omega arith) (setting_at font limit cut) refl in
    let sum : (used + one.steps) + more.steps ≡ used + set.steps = omega arith in
    let joined : ((before ++ one.items) ++ item ∷ []) ++ more.items ≡ before ++ set.items =
    simp append_assoc (ap (λ xs. before ++ xs) (sym (append_assoc one.items (item ∷ []) more.items) ∙ items)) in
    whole
    ∙ runs_onward font limit (used + one.steps) ((before ++ one.items) ++ item ∷ []) runs cuts more rest.1 (omega arith)
    ∙ ap (λ n. Some (setting n (((before ++ one.items) ++ item ∷ []) ++ more.items))) sum
    ∙ ap (λ xs. Some (setting (used + set.steps) xs)) joined

-- ---- the whole line

-- a line that is set byte by byte, within the limit, has this setting
pub line_set : (terms : TermsValue) (line : List ℕ) (set : Setting) → set_from terms.font terms.policy Left line ≡ Some set
    → set.steps ≤ terms.limit → set_after terms (setting 0 []) (only_part line) ≡ Some set
unfolding portions_in pieces_of
line_set terms line set is within =
    let kept : has_refused terms.policy terms.font line ≡ false = none_refused terms.font terms.policy Left line set is in
    codes_set terms (setting 0 []) line kept ∙ (runs_onward terms.font terms.limit 0 [] (slice_split (is_cut terms.font) line) (filter (is_cut terms.font) line) set
    (sym (in_runs terms.font terms.policy Left line kept) ∙ is) (omega arith)
    ∙ ap (λ n. Some (setting n set.items)) {x = 0 + set.steps} {y = set.steps} (omega arith))
