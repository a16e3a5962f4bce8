-- The outcome of a line, from what was found on the way.
use Rattle.std.proofs.Common.{◌≡◌, ℕ, ◌<◌, ◌≤◌, ◌||◌, Bool, true, false, ℤ, List, [], ◌∷◌, length, Option, Some, None, arith, refl, ap, sym, ◌∙◌}
use Rattle.std.specs.Prelude.{◌&&◌, nat_lt, not, slice_index, if◌then◌else◌}
use Rattle.std.specs.List.{position}
use Rattle.std.specs.Option.{option_map, option_map_or, unwrap_or}
use Rattle.std.proofs.lemmas.List.Elements.{All-weaker}
use Rattle.std.proofs.lemmas.List.Folds.{list_any-append, list_any_at, list_any_none}
use Rattle.std.proofs.lemmas.List.Quantifiers.{position-Some}
use Rattle.run_plan.specs.declared.policy.Policy.{Policy}
use Rattle.run_plan.specs.declared.policy.Policy.TheVariants.{Refuse, Skip}
use Rattle.tfm_tables.specs.Font.{FontValue}
use Rattle.lig_kern.specs.declared.item.Item.{Item}
use Rattle.set_line.specs.declared.outcome.LineRefusal.{LineRefusal}
use Rattle.set_line.specs.declared.outcome.LineRefusal.TheVariants.{Missing, Steps, TooLong}
use Rattle.set_line.specs.declared.outcome.Outcome.TheVariants.{Set, Refused}
use Rattle.set_line.specs.Terms.{TermsValue}
use Rattle.set_line.specs.Pieces.{IsRun, is_cut, is_missing, is_space, portions_of}
use Rattle.set_line.specs.Width.{total_width}
use Rattle.set_line.specs.Answer.{has_refused, is_refused, missing_in, outcome_of, refusal_of, set_as, set_or_refused}
use Rattle.set_line.specs.Onward.{IsFirstCut, onward, setting}
use Rattle.set_line.proofs.OnwardLemmas.{setting_is}
use Rattle.set_line.proofs.PieceLemmas.{none_passes}

-- ---- a byte that is refused

-- no byte of a run is refused
kept : (policy : Policy) (font : FontValue) (byte : ℕ) → is_cut font byte ≡ false → is_refused policy font byte ≡ false
kept Skip font byte uncut = refl
kept Refuse font byte uncut = by (is_space byte) (is_missing font byte) uncut
  where
    by : (a b : Bool) → (a || b) ≡ false → (not a && b) ≡ false
    by true b neither = refl
    by false b neither = neither

pub run_kept : (policy : Policy) (font : FontValue) (codes : List ℕ) → IsRun font codes → has_refused policy font codes ≡ false
run_kept policy font codes none =
    list_any_none (is_refused policy font) codes (All-weaker (λ x. is_cut font x ≡ false) (λ x. is_refused policy font x ≡ false) (kept policy font) codes none)

-- a line has a byte that is refused if that at which it is cut first is refused, or one after it
pub refused_cut : (policy : Policy) (font : FontValue) (line codes : List ℕ) (cut : ℕ) (rest : List ℕ) (b : Bool) → IsFirstCut font line codes cut rest
    → is_refused policy font cut ≡ b → has_refused policy font line ≡ (b || has_refused policy font rest)
refused_cut policy font line codes cut rest b first is =
    ap (has_refused policy font) first.whole ∙ list_any-append (is_refused policy font) codes (cut ∷ rest)
    ∙ ap (λ c. c || has_refused policy font (cut ∷ rest)) (run_kept policy font codes first.before)
    ∙ ap (λ c. c || has_refused policy font rest) is

-- ---- the refusal that is known before a line is set

-- a line that isn't long is refused at sight for a missing character alone
pub refusal_short : (terms : TermsValue) (line : List ℕ) → length line ≤ 65535 → refusal_of terms line ≡ missing_in terms.policy terms.font line
unfolding refusal_of
refusal_short terms line short = let few : nat_lt 65535 (length line) ≡ false = grind arith in rw few refl

pub refusal_long : (terms : TermsValue) (line : List ℕ) → 65535 < length line → refusal_of terms line ≡ Some (TooLong (length line))
unfolding refusal_of
refusal_long terms line long = let many : nat_lt 65535 (length line) ≡ true = grind arith in rw many refl

-- what a search for a byte that is refused finds
pub missing_at : (terms : TermsValue) (line : List ℕ) (at : ℕ) → length line ≤ 65535 → position (is_refused terms.policy terms.font) line ≡ Some at
    → Some (Missing at (slice_index line at)) ≡ refusal_of terms line
missing_at terms line at short is = sym (refusal_short terms line short ∙ ap (option_map (λ i. Missing i (slice_index line i))) is)

pub missing_nowhere : (terms : TermsValue) (line : List ℕ) (result : Option LineRefusal) → length line ≤ 65535 → position (is_refused terms.policy terms.font) line ≡ None
    → result ≡ None → result ≡ refusal_of terms line
missing_nowhere terms line result short is none = none ∙ sym (refusal_short terms line short ∙ ap (option_map (λ i. Missing i (slice_index line i))) is)

-- without such a refusal no byte is refused, and the converse
pub none_there : (terms : TermsValue) (line : List ℕ) → refusal_of terms line ≡ None → has_refused terms.policy terms.font line ≡ false
unfolding refusal_of
none_there terms line none = by (nat_lt 65535 (length line)) none
  where
    nowhere : (o : Option ℕ) → option_map (λ i. Missing i (slice_index line i)) o ≡ None → o ≡ None
    nowhere None is = refl
    nowhere (Some i) is = absurd (cc)

    by : (b : Bool) → (if b then Some (TooLong (length line)) else missing_in terms.policy terms.font line) ≡ None → has_refused terms.policy terms.font line ≡ false
    by true is = absurd (cc)
    by false is =
        list_any_none (is_refused terms.policy terms.font) line
        (none_passes (is_refused terms.policy terms.font) line (nowhere (position (is_refused terms.policy terms.font) line) is))

pub none_met : (terms : TermsValue) (line : List ℕ) → length line ≤ 65535 → has_refused terms.policy terms.font line ≡ false → refusal_of terms line ≡ None
none_met terms line short none = refusal_short terms line short ∙ by (position (is_refused terms.policy terms.font) line) refl
  where
    by : (o : Option ℕ) → position (is_refused terms.policy terms.font) line ≡ o → option_map (λ i. Missing i (slice_index line i)) o ≡ None
    by None is = refl
    by (Some i) is =
        let found = position-Some (is_refused terms.policy terms.font) line i 0 is in
        let some : has_refused terms.policy terms.font line ≡ true = list_any_at (is_refused terms.policy terms.font) line i 0 found.0 found.1 in
        absurd (cc)

-- ---- the outcome

pub outcome_refused : (terms : TermsValue) (line : List ℕ) (refusal : LineRefusal) → refusal_of terms line ≡ Some refusal → Refused refusal ≡ outcome_of terms line
unfolding outcome_of
outcome_refused terms line refusal is = sym (ap (λ r. option_map_or Refused r (set_or_refused terms line)) is)

pub outcome_unrefused : (terms : TermsValue) (line : List ℕ) → refusal_of terms line ≡ None → outcome_of terms line ≡ set_or_refused terms line
unfolding outcome_of
outcome_unrefused terms line none = ap (λ r. option_map_or Refused r (set_or_refused terms line)) none

-- a line that wasn't set
pub outcome_unset : (terms : TermsValue) (line : List ℕ) → (refusal_of terms line ≡ None → Refused (Steps terms.limit) ≡ outcome_of terms line)
    → Refused (unwrap_or (refusal_of terms line) (Steps terms.limit)) ≡ outcome_of terms line
outcome_unset terms line steps = by (refusal_of terms line) refl
  where
    by : (o : Option LineRefusal) → refusal_of terms line ≡ o → Refused (unwrap_or o (Steps terms.limit)) ≡ outcome_of terms line
    by None is = steps is
    by (Some refusal) is = outcome_refused terms line refusal is

-- a line whose portions were set
pub outcome_onward : (terms : TermsValue) (line : List ℕ) (before : List Item) → refusal_of terms line ≡ None → before ≡ []
    → outcome_of terms line ≡ option_map_or set_as (onward terms.font terms.limit (setting 0 before) (portions_of terms.font line)) (Refused (Steps terms.limit))
outcome_onward terms line before none empty =
    outcome_unrefused terms line none
    ∙ ap (λ s. option_map_or set_as s (Refused (Steps terms.limit)))
    (sym (ap (λ xs. onward terms.font terms.limit (setting 0 xs) (portions_of terms.font line)) empty ∙ setting_is terms.font terms.limit (portions_of terms.font line)))

pub outcome_steps : (terms : TermsValue) (line : List ℕ) (before : List Item) → refusal_of terms line ≡ None → before ≡ []
    → onward terms.font terms.limit (setting 0 before) (portions_of terms.font line) ≡ None → Refused (Steps terms.limit) ≡ outcome_of terms line
outcome_steps terms line before none empty reached =
    sym (outcome_onward terms line before none empty ∙ ap (λ s. option_map_or set_as s (Refused (Steps terms.limit))) reached)

pub outcome_set_as : (terms : TermsValue) (line : List ℕ) (steps : ℕ) (before items shown : List Item) (width : ℤ) → refusal_of terms line ≡ None → before ≡ []
    → onward terms.font terms.limit (setting 0 before) (portions_of terms.font line) ≡ Some (setting steps items)
    → shown ≡ items → width ≡ total_width items → Set shown width steps ≡ outcome_of terms line
outcome_set_as terms line steps before items shown width none empty reached same sum =
    ap (λ xs. Set xs width steps) same ∙ ap (λ w. Set items w steps) sum
    ∙ sym (outcome_onward terms line before none empty ∙ ap (λ s. option_map_or set_as s (Refused (Steps terms.limit))) reached)

pub ruleset outcomes = (outcome_refused, outcome_unset)
