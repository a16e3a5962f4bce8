-- Several steps of the rewriting, one after the other.
use Rattle.std.proofs.Common.{◌≡◌, ℕ, suc, zero, ◌+◌, ◌-◌, ◌<◌, ◌≤◌, Bool, true, false, List, ◌∷◌, ◌++◌, length, take, drop, Option, Some, None, arith, refl, ap, sym, ◌∙◌, append_assoc, length-append}
use Rattle.std.specs.Prelude.{nat_lt, if◌then◌else◌}
use Rattle.std.proofs.lemmas.Bool.{leb-true, ltb-true, ltb-false}
use Rattle.std.specs.List.{slice_get}
use Rattle.std.specs.Option.{option_and_then, option_map}
use Rattle.std.proofs.lemmas.List.{get_or-append-add}
use Rattle.std.proofs.lemmas.Option.{slice_get-get_or, slice_get_past}
use Rattle.std.proofs.Math.Seq.{take-append_seam, drop-append-add, get_or-append_seam}
use Rattle.tfm_tables.specs.Font.{FontValue}
use Rattle.lig_kern.specs.declared.item.Item.{Item}
use Rattle.lig_kern.specs.Rewriting.{Configuration, Element, action_at, after_steps, final_items, is_final, items_of, splice_by, spliced, step_from}

-- ---- the current element and the next one, after those that are done

module _ {A : Type 0} (done : List A) (x y : A) (rest : List A) where
  pub here : slice_get (done ++ x ∷ y ∷ rest) (length done) ≡ Some x
  here = slice_get-get_or (done ++ x ∷ y ∷ rest) (length done) x (omega (arith, length-append done (x ∷ y ∷ rest))) ∙ ap Some (get_or-append_seam done x (y ∷ rest) x)

  pub there : slice_get (done ++ x ∷ y ∷ rest) (length done + 1) ≡ Some y
  there = slice_get-get_or (done ++ x ∷ y ∷ rest) (length done + 1) y (omega (arith, length-append done (x ∷ y ∷ rest))) ∙ ap Some (get_or-append-add done (x ∷ y ∷ rest) 1 y)

  -- both are replaced by the first elements of what follows
  pub put_there : (put sent after : List A) → put ++ rest ≡ sent ++ after
      → take (length done) (done ++ x ∷ y ∷ rest) ++ put ++ drop (length done + 2) (done ++ x ∷ y ∷ rest) ≡ (done ++ sent) ++ after
  put_there put sent after same =
      let front : take (length done) (done ++ x ∷ y ∷ rest) ≡ done = take-append_seam done (x ∷ y ∷ rest) in
      let back : drop (length done + 2) (done ++ x ∷ y ∷ rest) ≡ rest = drop-append-add done (x ∷ y ∷ rest) 2 in
      rw front (rw back (append_assoc done put rest ∙ ap (λ more. done ++ more) same ∙ sym (append_assoc done sent after)))

-- ---- several steps

-- several steps and then some more, of any rewriting
pub after_both : {C : Type 0} (step : C → Option C) (after : ℕ → C → Option C) → ((c : C) → after zero c ≡ Some c)
    → ((n : ℕ) (c : C) → after (suc n) c ≡ option_and_then (after n) (step c))
    → (n m : ℕ) (c : C) → after (n + m) c ≡ option_and_then (after m) (after n c)
after_both step after none more zero m c =
    let same : 0 + m ≡ m = omega arith in rw same (sym (ap (option_and_then (after m)) (none c)))
after_both {C} step after none more (suc n) m c =
    let further : suc n + m ≡ suc (n + m) = omega arith in
    rw further (more (n + m) c ∙ by (step c) (λ d. after_both step after none more n m d) ∙ sym (ap (option_and_then (after m)) (more n c)))
  where
    by : (o : Option C) → ((d : C) → after (n + m) d ≡ option_and_then (after m) (after n d))
        → option_and_then (after (n + m)) o ≡ option_and_then (after m) (option_and_then (after n) o)
    by None onward = refl
    by (Some d) onward = onward d

pub after_add : (font : FontValue) (n m : ℕ) (c : Configuration) → after_steps font (n + m) c ≡ option_and_then (after_steps font m) (after_steps font n c)
unfolding after_steps
after_add font n m c = after_both (step_from font) (after_steps font) (λ c. refl) (λ k c. refl) n m c

-- no step can be made from a final configuration
pub final_stops : (font : FontValue) (d : Configuration) → is_final d ≡ true → step_from font d ≡ None
unfolding step_from
final_stops font d final =
    rw (slice_get_past d.elements (d.cursor + 1) (leb-true (length d.elements) (d.cursor + 1) final)) (by (slice_get d.elements d.cursor))
  where
    by : (o : Option Element) → option_and_then (λ current. option_map (λ next. spliced d (splice_by (action_at font current next) current next)) None) o ≡ None
    by None = refl
    by (Some current) = refl

-- the items after this many steps
abbrev pub settled : FontValue → ℕ → Configuration → Option (List Item)
settled font n c = option_and_then (final_items font) (after_steps font n c)

-- there are no items after fewer steps than can be made
pub unsettled : (font : FontValue) (m n : ℕ) (c d : Configuration) → after_steps font m c ≡ Some d → n < m → settled font n c ≡ None
unfolding after_steps
unsettled font m n c d reached less =
    by (after_steps font n c) (m - n) (omega arith)
    (let whole : m ≡ n + (m - n) = omega arith in sym (after_add font n (m - n) c) ∙ ap (λ k. after_steps font k c) (sym whole) ∙ reached)
  where
    by : (o : Option Configuration) (k : ℕ) → 0 < k → option_and_then (after_steps font k) o ≡ Some d → option_and_then (final_items font) o ≡ None
    by None k more e = refl
    by (Some x) zero more e = absurd (omega arith)
    by (Some x) (suc k) more e = stepped (is_final x) refl
      where
        stepped : (b : Bool) → is_final x ≡ b → (if b then Some (items_of font x.elements) else None) ≡ None
        stepped false f = refl
        stepped true f = let none : step_from font x ≡ None = final_stops font x f in absurd (let never = rw none at e in cc)

-- nor if a further step can be made after them
pub unended : (font : FontValue) (used n : ℕ) (opening c : Configuration) → after_steps font used opening ≡ Some c → is_final c ≡ false → n ≤ used
    → settled font n opening ≡ None
unended font used n opening c reached more within = by (nat_lt n used) refl
  where
    shown : (b : Bool) → is_final c ≡ b → b ≡ false → (if b then Some (items_of font c.elements) else None) ≡ None
    shown true e e' = absurd (cc)
    shown false e e' = refl

    by : (b : Bool) → nat_lt n used ≡ b → settled font n opening ≡ None
    by true below = unsettled font used n opening c reached (ltb-true n used below)
    by false above =
        let same : n ≡ used = omega (arith, ltb-false n used above) in
        rw same (ap (option_and_then (final_items font)) reached ∙ shown (is_final c) refl more)
