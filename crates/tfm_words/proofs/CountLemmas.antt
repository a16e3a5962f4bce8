-- The first error in the list of count errors, computed from the parts of the list; and there is none
-- exactly where the counts are lawful and the bytes contain the whole file.
use Rattle.std.proofs.Common.{◌≡◌, ◌≢◌, eq-eqb, ℕ, ◌+◌, ◌*◌, ◌^◌, ◌<◌, ◌≤◌, Bool, true, false, not, ◌||◌, ◌==◌, nat_lt, List, [], ◌∷◌, ◌++◌, length, Option, Some, None, arith, refl, ap, sym, ◌∙◌, IsOk}
use Rattle.std.proofs.lemmas.Bool.{ltb-false, le-ltb, lt-ltb, leb-false, lt-leb, eqb-false, eqb-true, ne_eqb}
use Rattle.std.specs.Option.{option_or}
use Rattle.std.specs.Prelude.{Result, Ok, Err, IsErr}
use Rattle.tfm_words.specs.declared.numbers.Numbers.{Numbers}
use Rattle.tfm_words.specs.declared.count_fault.CountFault.{CountFault}
use Rattle.tfm_words.specs.declared.count_fault.CountFault.TheVariants.{Truncated}
use Rattle.tfm_words.specs.Counts.{counts_of, whole_length, IsLawful, HasLawfulCounts}
use Rattle.tfm_words.specs.CountFaults.{count_faults, faults_within, first_fault, range_faults, shape_faults, is_too_large}
use Rattle.tfm_words.proofs.FirstFault.{AllPassed, first_fault-append, passed_of_none, none_of_passed}

-- ---- the parts of the list

rest : ℕ → Numbers → List (Bool × CountFault)
rest size c = (nat_lt size (4 * c.lf), Truncated (4 * c.lf)) ∷ []

option_or-assoc : {T : Type 0} (a b c : Option T) → option_or (option_or a b) c ≡ option_or a (option_or b c)
option_or-assoc None b c = refl
option_or-assoc (Some x) b c = refl

joined : (size : ℕ) (c : Numbers) → 24 ≤ size
    → first_fault (faults_within size c) ≡ option_or (first_fault (range_faults c)) (option_or (first_fault (shape_faults c)) (first_fault (rest size c)))
unfolding rest faults_within
joined size c enough =
    let long : nat_lt size 24 ≡ false = le-ltb size 24 enough in
    rw long (first_fault-append (range_faults c ++ shape_faults c) (rest size c)
    ∙ (ap (λ o. option_or o (first_fault (rest size c))) (first_fault-append (range_faults c) (shape_faults c)) ∙ option_or-assoc (first_fault (range_faults c)) (first_fault (shape_faults c)) (first_fault (rest size c))))

pub fault_of_head : (bytes : List ℕ) → length bytes < 24 → first_fault (count_faults bytes) ≡ Some (Truncated 24)
unfolding faults_within
fault_of_head bytes short = let s : nat_lt (length bytes) 24 ≡ true = lt-ltb (length bytes) 24 short in rw s refl

pub fault_of_ranges : (bytes : List ℕ) (f : CountFault) → 24 ≤ length bytes → first_fault (range_faults (counts_of bytes)) ≡ Some f
    → first_fault (count_faults bytes) ≡ Some f
fault_of_ranges bytes f enough e = joined (length bytes) (counts_of bytes) enough ∙ rw e refl

pub fault_of_shape : (bytes : List ℕ) (f : CountFault) → 24 ≤ length bytes → first_fault (range_faults (counts_of bytes)) ≡ None
    → first_fault (shape_faults (counts_of bytes)) ≡ Some f → first_fault (count_faults bytes) ≡ Some f
fault_of_shape bytes f enough none e = joined (length bytes) (counts_of bytes) enough ∙ rw (none, e) refl

pub fault_of_length : (bytes : List ℕ) (need : ℕ) → 24 ≤ length bytes → first_fault (range_faults (counts_of bytes)) ≡ None
    → first_fault (shape_faults (counts_of bytes)) ≡ None → need ≡ 4 * (counts_of bytes).lf → length bytes < need
    → first_fault (count_faults bytes) ≡ Some (Truncated need)
unfolding rest
fault_of_length bytes need enough none none' is short =
    let s : nat_lt (length bytes) (4 * (counts_of bytes).lf) ≡ true = lt-ltb (length bytes) (4 * (counts_of bytes).lf) (omega arith) in
    joined (length bytes) (counts_of bytes) enough ∙ rw (none, none', s) (ap (λ n. Some (Truncated n)) (sym is))

pub no_fault : (bytes : List ℕ) → 24 ≤ length bytes → first_fault (range_faults (counts_of bytes)) ≡ None
    → first_fault (shape_faults (counts_of bytes)) ≡ None → 4 * (counts_of bytes).lf ≤ length bytes → first_fault (count_faults bytes) ≡ None
unfolding rest
no_fault bytes enough none none' long =
    let s : nat_lt (length bytes) (4 * (counts_of bytes).lf) ≡ false = le-ltb (length bytes) (4 * (counts_of bytes).lf) long in
    joined (length bytes) (counts_of bytes) enough ∙ rw (none, none', s) refl

-- the lemmas that `grind` needs: one for each way in which `Numbers::checked` returns
pub ruleset exits = (fault_of_head, fault_of_ranges, fault_of_shape, fault_of_length, no_fault)

-- ---- lawful counts

not_false : (b : Bool) → not b ≡ false → b ≡ true
not_false true e = refl
not_false false e = cc

or_false : (a b : Bool) → (a || b) ≡ false → (a ≡ false) × (b ≡ false)
or_false true b e = let bad : true ≡ false = e in cc
or_false false b e = (refl, e)

not_true : (b : Bool) → b ≡ true → not b ≡ false
not_true b e = rw e refl

eq_test : (a b : ℕ) → a ≡ b → (a == b) ≡ true
eq_test a b e = eq-eqb a b e

neq_test : (a b : ℕ) → a ≢ b → (a == b) ≡ false
neq_test a b h = ne_eqb a b h

small_of : (n : ℕ) → is_too_large n ≡ false → n < 2 ^ 15
small_of n e = leb-false (2 ^ 15) n e

too_large_of : (n : ℕ) → n < 2 ^ 15 → is_too_large n ≡ false
too_large_of n h = lt-leb (2 ^ 15) n h

from_test : (a b : ℕ) → (a == b) ≡ true → a ≡ b
from_test a b e = eqb-true a b e

lawful_of_passed : (size : ℕ) (c : Numbers) → AllPassed (faults_within size c) → (24 ≤ size) × (IsLawful c × (4 * c.lf ≤ size))
unfolding faults_within range_faults shape_faults
lawful_of_passed size c p =
    let shape = p.1.1.1.1.1.1.1.1.1.1.1.1.1 in
    let codes = or_false (nat_lt (c.ec + 1) c.bc) (nat_lt 255 c.ec) shape.0 in (
      ltb-false size 24 p.0,
      (
        record {
          small = (
            small_of c.lf p.1.0,
            (
              small_of c.lh p.1.1.0,
              (
                small_of c.bc p.1.1.1.0,
                (
                  small_of c.ec p.1.1.1.1.0,
                  (
                    small_of c.nw p.1.1.1.1.1.0,
                    (
                      small_of c.nh p.1.1.1.1.1.1.0,
                      (
                        small_of c.nd p.1.1.1.1.1.1.1.0,
                        (
                          small_of c.ni p.1.1.1.1.1.1.1.1.0,
                          (
                            small_of c.nl p.1.1.1.1.1.1.1.1.1.0,
                            (
                              small_of c.nk p.1.1.1.1.1.1.1.1.1.1.0,
                              (
                                small_of c.ne p.1.1.1.1.1.1.1.1.1.1.1.0,
                                (small_of c.np p.1.1.1.1.1.1.1.1.1.1.1.1.0, tt),
                              ),
                            ),
                          ),
                        ),
                      ),
                    ),
                  ),
                ),
              ),
            ),
          );
          characters = ltb-false (c.ec + 1) c.bc codes.0;
          last_code = ltb-false 255 c.ec codes.1;
          header = ltb-false c.lh 2 shape.1.0;
          widths = eqb-false c.nw 0 shape.1.1.0;
          heights = eqb-false c.nh 0 shape.1.1.1.0;
          depths = eqb-false c.nd 0 shape.1.1.1.1.0;
          italics = eqb-false c.ni 0 shape.1.1.1.1.1.0;
          recipes = ltb-false 256 c.ne shape.1.1.1.1.1.1.0;
          whole = from_test c.lf (whole_length c) (not_false (c.lf == whole_length c) shape.1.1.1.1.1.1.1.0);
        },
        ltb-false size (4 * c.lf) shape.1.1.1.1.1.1.1.1.0,
      ),
    )

passed_of_lawful : (size : ℕ) (c : Numbers) → 24 ≤ size → IsLawful c → 4 * c.lf ≤ size → AllPassed (faults_within size c)
unfolding faults_within range_faults shape_faults
passed_of_lawful size c enough lawful long =
    let s = lawful.small in (
      le-ltb size 24 enough,
      (
        too_large_of c.lf s.0,
        (
          too_large_of c.lh s.1.0,
          (
            too_large_of c.bc s.1.1.0,
            (
              too_large_of c.ec s.1.1.1.0,
              (
                too_large_of c.nw s.1.1.1.1.0,
                (
                  too_large_of c.nh s.1.1.1.1.1.0,
                  (
                    too_large_of c.nd s.1.1.1.1.1.1.0,
                    (
                      too_large_of c.ni s.1.1.1.1.1.1.1.0,
                      (
                        too_large_of c.nl s.1.1.1.1.1.1.1.1.0,
                        (
                          too_large_of c.nk s.1.1.1.1.1.1.1.1.1.0,
                          (
                            too_large_of c.ne s.1.1.1.1.1.1.1.1.1.1.0,
                            (
                              too_large_of c.np s.1.1.1.1.1.1.1.1.1.1.1.0,
                              (
                                rw (le-ltb (c.ec + 1) c.bc lawful.characters) (le-ltb 255 c.ec lawful.last_code),
                                (
                                  le-ltb c.lh 2 lawful.header,
                                  (
                                    neq_test c.nw 0 lawful.widths,
                                    (
                                      neq_test c.nh 0 lawful.heights,
                                      (
                                        neq_test c.nd 0 lawful.depths,
                                        (
                                          neq_test c.ni 0 lawful.italics,
                                          (
                                            le-ltb 256 c.ne lawful.recipes,
                                            (
                                              not_true (c.lf == whole_length c) (eq_test c.lf (whole_length c) lawful.whole),
                                              (le-ltb size (4 * c.lf) long, tt),
                                            ),
                                          ),
                                        ),
                                      ),
                                    ),
                                  ),
                                ),
                              ),
                            ),
                          ),
                        ),
                      ),
                    ),
                  ),
                ),
              ),
            ),
          ),
        ),
      ),
    )

-- the counts have no error exactly if they are lawful and the bytes contain the whole file: the two
-- directions
pub accepted_is : (bytes : List ℕ) → first_fault (count_faults bytes) ≡ None → HasLawfulCounts bytes
accepted_is bytes e =
    let all = lawful_of_passed (length bytes) (counts_of bytes) (passed_of_none (count_faults bytes) e) in
    record { head = all.0; lawful = all.1.0; whole = all.1.1 }

pub none_of_accepted : (bytes : List ℕ) → HasLawfulCounts bytes → first_fault (count_faults bytes) ≡ None
none_of_accepted bytes h = none_of_passed (count_faults bytes) (passed_of_lawful (length bytes) (counts_of bytes) h.head h.lawful h.whole)

-- bytes whose counts have an error don't have lawful counts
pub fault_is_not_accepted : (bytes : List ℕ) (f : CountFault) → first_fault (count_faults bytes) ≡ Some f → HasLawfulCounts bytes → ⊥
fault_is_not_accepted bytes f e h = let none = none_of_accepted bytes h in cc

pub ok_is_no_err : {T F : Type 0} (r : Result T F) → IsErr r → IsOk r → ⊥
ok_is_no_err (Ok x) err ok = cc
ok_is_no_err (Err f) err ok = cc
