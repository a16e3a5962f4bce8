-- The lines of a run, as they come.
use Rattle.std.proofs.Common.{◌≡◌, ◌≤◌, ℕ, ◌+◌, ◌-◌, Bool, true, false, List, [], ◌++◌, length, take, drop, Option, Some, None, arith, ap, sym, subst, ◌∙◌, append_assoc, append-nil, take-append-drop, length-drop}
use Rattle.std.specs.Io.KnownBytes.{Appends, Keeps}
use Rattle.std.proofs.Math.Seq.{take-add}
use Rattle.std.proofs.lemmas.List.{take_all}
use Rattle.batch.specs.Events.{Event, Gets}
use Rattle.run_texts.specs.StreamState.{MovesOut}

-- the first bytes of the block were written
pub moved : (w w' : Option (List ℕ)) (block left : List ℕ) (n : ℕ) → Appends w w' (take n block) → left ≡ drop n block → MovesOut w block w' left
moved w w' block left n out is = (take n block, out, ap (λ b. take n block ++ b) is ∙ take-append-drop n block)

-- the whole block was written
pub moved_out : (w w' : Option (List ℕ)) (block left : List ℕ) → MovesOut w block w' left → left ≡ [] → Appends w w' block
moved_out w w' block left (written, out, all) empty =
    subst (Appends w w') (sym (append-nil written) ∙ ap (λ b. written ++ b) (sym empty) ∙ all) out

-- nothing more
pub appends_nothing : (w : Option (List ℕ)) → Appends w w []
appends_nothing None = tt
appends_nothing (Some xs) = sym (append-nil xs)

-- one after the other
pub appends_more : (w w' w'' : Option (List ℕ)) (a b : List ℕ) → Appends w w' a → Appends w' w'' b → Appends w w'' (a ++ b)
appends_more None w' w'' a b first second = tt
appends_more (Some xs) None w'' a b first second = absurd first
appends_more (Some xs) (Some ys) None a b first second = absurd second
appends_more (Some xs) (Some ys) (Some zs) a b first second = second ∙ ap (λ t. t ++ b) first ∙ append_assoc xs a b

pub moves_more : (w w' w'' : Option (List ℕ)) (text block left : List ℕ) → MovesOut w text w' block → MovesOut w' block w'' left → MovesOut w text w'' left
moves_more w w' w'' text block left (a, first, all) (b, second, rest) =
    (a ++ b, appends_more w w' w'' a b first second, append_assoc a b left ∙ ap (λ t. a ++ t) rest ∙ all)

-- nothing was written
pub nothing_appended : (w w' : Option (List ℕ)) → Keeps w w' → Appends w w' []
nothing_appended None w' h = tt
nothing_appended (Some xs) None h = h
nothing_appended (Some xs) (Some ys) h = h ∙ sym (append-nil xs)

-- nothing more was written
pub nothing_more : (w w' w'' : Option (List ℕ)) (a : List ℕ) → Appends w w' a → Keeps w' w'' → Appends w w'' a
nothing_more None w' w'' a h k = tt
nothing_more (Some xs) None w'' a h k = absurd h
nothing_more (Some xs) (Some ys) None a h k = k
nothing_more (Some xs) (Some ys) (Some zs) a h k = k ∙ h

-- all bytes were written
pub all_appended : (w w' : Option (List ℕ)) (text : List ℕ) (n : ℕ) → length text ≤ n → Appends w w' (take n text) → Appends w w' text
all_appended w w' text n all written = subst (Appends w w') (take_all n text all) written

-- some more were written
pub some_more : (w w' w'' : Option (List ℕ)) (xs : List ℕ) (i n : ℕ) → Appends w w' (take i xs) → Appends w' w'' (take n (drop i xs)) → Appends w w'' (take (i + n) xs)
some_more None w' w'' xs i n h k = tt
some_more (Some ws) None w'' xs i n h k = absurd h
some_more (Some ws) (Some ys) None xs i n h k = k
some_more (Some ws) (Some ys) (Some zs) xs i n h k =
    k ∙ ap (λ t. t ++ take n (drop i xs)) h ∙ append_assoc ws (take i xs) (take n (drop i xs)) ∙ ap (λ t. ws ++ t) (sym (take-add i n xs))

-- all that follows
pub take_all_rest : (xs : List ℕ) (i : ℕ) → take (length xs - i) (drop i xs) ≡ drop i xs
take_all_rest xs i = take_all (length xs - i) (drop i xs) (omega (arith, length-drop i xs))

pub ruleset appends = (nothing_appended, nothing_more, some_more)

pub ruleset moves = (moved)

-- what a collector was given, by what is in it
pub gets_within : {C D O : Type 0} (of : D → C) (given : C → List (Event O) → Type 0) (before after : D) (event : Event O) (taken : Bool)
    → Gets given (of before) event taken (of after) → Gets (λ d events. given (of d) events) before event taken after
gets_within of given before after event true h = h
gets_within of given before after event false h = h
