-- Texts that are written one after the other.
use Rattle.std.proofs.Common.{◌≡◌, ℕ, List, [], ◌∷◌, ◌++◌, Option, Some, None, ap, sym, ◌∙◌, append_assoc, append-nil}
use Rattle.std.specs.Io.KnownBytes.{Appends}
use Rattle.std.specs.List.{concat, flat_map}
use Rattle.std.proofs.lemmas.List.Folds.{concat-append}
use Rattle.std.proofs.lemmas.Grind.{flat_map-append}

-- nothing more
pub appends_nothing : (w : Option (List ℕ)) → Appends w w []
appends_nothing None = tt
appends_nothing (Some xs) = sym (append-nil xs)

-- one after the other
pub appends_more : (w w' w'' : Option (List ℕ)) (a b : List ℕ) → Appends w w' a → Appends w' w'' b → Appends w w'' (a ++ b)
appends_more None w' w'' a b first second = tt
appends_more (Some xs) None w'' a b first second = absurd first
appends_more (Some xs) (Some ys) None a b first second = absurd second
appends_more (Some xs) (Some ys) (Some zs) a b first second = second ∙ ap (λ t. t ++ b) first ∙ append_assoc xs a b

-- a block that is full, after those before it, and nothing in the one that is begun
pub joined_more : (blocks blocks' : List (List ℕ)) (last last' : List ℕ) → blocks' ≡ blocks ++ last ∷ [] → last' ≡ [] → concat blocks' ++ last' ≡ concat blocks ++ last
joined_more blocks blocks' last last' more empty =
    ap (λ bs. concat bs ++ last') more
    ∙ ap (λ l. concat (blocks ++ last ∷ []) ++ l) empty
    ∙ append-nil _
    ∙ concat-append blocks (last ∷ [])
    ∙ ap (λ l. concat blocks ++ l) (append-nil last)

-- one block more
pub appends_block : (w w' w'' : Option (List ℕ)) (blocks : List (List ℕ)) (block : List ℕ)
    → Appends w w' (concat blocks) → Appends w' w'' block → Appends w w'' (concat (blocks ++ block ∷ []))
appends_block w w' w'' blocks block first second =
    let all : concat (blocks ++ block ∷ []) ≡ concat blocks ++ block =
    concat-append blocks (block ∷ []) ∙ ap (λ l. concat blocks ++ l) (append-nil block) in
    rw all (appends_more w w' w'' (concat blocks) block first second)

-- one lane's text more
pub appends_lane : {T : Type 0} (text_of : T → List ℕ) (w w' w'' : Option (List ℕ)) (lanes : List T) (lane : T)
    → Appends w w' (flat_map text_of lanes) → Appends w' w'' (text_of lane) → Appends w w'' (flat_map text_of (lanes ++ lane ∷ []))
appends_lane text_of w w' w'' lanes lane first second =
    let all : flat_map text_of (lanes ++ lane ∷ []) ≡ flat_map text_of lanes ++ text_of lane =
    flat_map-append text_of lanes (lane ∷ []) ∙ ap (λ t. flat_map text_of lanes ++ t) (append-nil (text_of lane)) in
    rw all (appends_more w w' w'' (flat_map text_of lanes) (text_of lane) first second)
