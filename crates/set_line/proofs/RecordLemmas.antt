-- The parts of records.
use Rattle.std.proofs.Common.{◌≡◌, ℕ, ◌+◌, ◌-◌, false, List, [], ◌++◌, arith, refl, ap, sym, ◌∙◌, append_assoc}
use Rattle.std.specs.Prelude.{OnOk, Result, Ok, Err, codes, is_ok, nat_lt, if◌then◌else◌}
use Rattle.run_plan.specs.declared.version.Version.{Version}
use Rattle.run_plan.specs.Versions.{label}
use Rattle.lig_kern.specs.declared.item.Item.TheVariants.{Skipped}
use Rattle.set_line.specs.Record.{character_text, closing, opening, text_in}

-- the text of a character without codes
uncoded : (version : Version) (character : ℕ)
    → text_in version (Skipped (256 + character)) ≡ opening version (codes "u") ++ character_text version character ++ closing version
unfolding text_in
uncoded version character =
    let above : nat_lt (256 + character) 256 ≡ false = grind arith in
    let back : 256 + character - 256 ≡ character = omega arith in
    rw above (rw back refl)

-- the text of a character without codes, appended in parts
pub uncoded_pushed : {T E : Type 0} (r : Result T E) (version : Version) (character : ℕ) (before middle opened closed after : List ℕ)
    → middle ≡ before ++ opened ++ character_text version character → opened ≡ label version (codes " u") (codes ",[\"u\",")
    → closed ≡ label version [] (codes "]") → after ≡ (if is_ok r then middle ++ closed else middle)
    → OnOk r (after ≡ before ++ text_in version (Skipped (256 + character)))
uncoded_pushed (Ok value) version character before middle opened closed after first opens closes is =
    is ∙ ap (λ end. middle ++ end) closes ∙ ap (λ xs. xs ++ closing version) (first ∙ ap (λ xs. before ++ xs ++ character_text version character) opens)
    ∙ grind (arith, append_assoc, uncoded version character)
uncoded_pushed (Err fault) version character before middle opened closed after first opens closes is = tt

-- what was appended in two parts or in four, as one
pub one_number : {T E : Type 0} (r : Result T E) (before label_of text after whole : List ℕ) → whole ≡ label_of ++ text
    → OnOk r (after ≡ before ++ label_of ++ text) → OnOk r (after ≡ before ++ whole)
one_number (Ok value) before label_of text after whole is done = done ∙ append_assoc before label_of text ∙ ap (λ xs. before ++ xs) (sym is)
one_number (Err fault) before label_of text after whole is done = tt

pub two_numbers : {T E : Type 0} (r : Result T E) (before one two middle three four after whole : List ℕ) → whole ≡ one ++ two ++ three ++ four
    → middle ≡ before ++ one ++ two → OnOk r (after ≡ middle ++ three ++ four) → OnOk r (after ≡ before ++ whole)
two_numbers (Ok value) before one two middle three four after whole is first done =
    done ∙ ap (λ xs. xs ++ three ++ four) first ∙ grind (arith, append_assoc) ∙ ap (λ xs. before ++ xs) (sym is)
two_numbers (Err fault) before one two middle three four after whole is first done = tt
