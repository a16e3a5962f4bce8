-- The first part of a list, by what follows it.
use Rattle.std.proofs.Common.{◌≡◌, List, [], ◌++◌, length, take, drop, ap, sym, ◌∙◌, append_assoc, append-nil, take-append-drop}
use Rattle.std.proofs.lemmas.List.{map-append, take-map}
use Rattle.std.proofs.Math.Seq.{take-append_seam}
use Rattle.std.specs.Prelude.{map}
use Rattle.lanes.specs.Lane.{pipeline}
use Rattle.lanes.specs.Rings.{IsFirstOf}

module _ {T : Type 0} where
  -- a list, and what follows it in another
  abbrev pub IsFront : List T → List T → Type 0
  IsFront front all = (rest : List T) × (front ++ rest ≡ all)

  pub first_front : (front all : List T) → IsFirstOf front all → IsFront front all
  first_front front all e =
      (drop (length front) all, ap (λ f. f ++ drop (length front) all) e ∙ take-append-drop (length front) all)

  pub front_first : (front all : List T) → IsFront front all → IsFirstOf front all
  front_first front all (rest, e) = sym (take-append_seam front rest) ∙ ap (take (length front)) e

  pub front_same : (front all : List T) → all ≡ front → IsFront front all
  front_same front all e = ([], append-nil front ∙ sym e)

  pub front_trans : (a b c : List T) → IsFront a b → IsFront b c → IsFront a c
  front_trans a b c (r, e) (q, f) = (r ++ q, sym (append_assoc a r q) ∙ ap (λ x. x ++ q) e ∙ f)

module _ {I O : Type 0} where
  pub map_front : (makes : I → O) (front all : List I) → IsFront front all → IsFront (map makes front) (map makes all)
  map_front makes front all (rest, e) = (map makes rest, sym (map-append makes front rest) ∙ ap (map makes) e)

  -- results made of the first items
  pub pipeline_front : (makes : I → O) (items : List I) (results : List O) → pipeline makes items results → IsFront results (map makes items)
  pipeline_front makes items results e = first_front results (map makes items) (e ∙ sym (take-map makes (length results) items))

  pub front_pipeline : (makes : I → O) (items : List I) (results : List O) → IsFront results (map makes items) → pipeline makes items results
  front_pipeline makes items results front = front_first results (map makes items) front ∙ take-map makes (length results) items
