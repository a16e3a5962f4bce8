-- An accepted TFM file isn't a table.
use Rattle.std.proofs.Common.{◌≡◌, ℕ, negsuc, pos, ◌+◌, ◌*◌, ◌^◌, ◌<◌, ◌≤◌, List, [], ◌∷◌, length, Option, Some, None, arith, refl, sym, ◌∙◌, w32}
use Rattle.std.proofs.lemmas.Int.{to_z_pos}
use Rattle.tfm_words.specs.declared.count_fault.CountFault.{CountFault}
use Rattle.tfm_words.specs.CountFaults.{count_fault_of}
use Rattle.tfm_words.specs.Counts.{HasLawfulCounts, counts_of}
use Rattle.tfm_words.proofs.CountLemmas.{accepted_is}
use Rattle.tfm_tables.specs.Acceptance.{after_counts, font_fault_of}
use Rattle.tfm_tables.proofs.MeasureLemmas.{AreBytes}
use Rattle.prepared_font.specs.Layout.{number_at}

-- an accepted TFM file has lawful counts
lawful : (bytes : List ℕ) → font_fault_of bytes ≡ None → HasLawfulCounts bytes
lawful bytes none = accepted_is bytes (by (count_fault_of bytes) none)
  where
    by : (fault : Option CountFault) → after_counts bytes fault ≡ None → fault ≡ None
    by None e = refl
    by (Some fault) e = absurd (cc)

-- bytes that begin with a small number don't begin with the first word of a table
other_word : (bytes : List ℕ) → AreBytes bytes → 24 ≤ length bytes → (counts_of bytes).lf < 2 ^ 15 → number_at bytes 0 ≡ negsuc 145471922 → ⊥
unfolding counts_of number_at
other_word [] are long small is = absurd (omega (arith, long))
other_word (a ∷ []) are long small is = absurd (omega (arith, long))
other_word (a ∷ b ∷ []) are long small is = absurd (omega (arith, long))
other_word (a ∷ b ∷ c ∷ []) are long small is = absurd (omega (arith, long))
other_word (a ∷ b ∷ c ∷ d ∷ bytes) are long small is =
    let n : ℕ = a * 256 ^ 3 + (b * 256 ^ 2 + (c * 256 ^ 1 + (d * 256 ^ 0 + 0))) in
    let below : n < 2 ^ 31 = omega (arith, are 0, are 1, are 2, are 3, small) in
    let same : pos n ≡ negsuc 145471922 = sym (to_z_pos w32 n below) ∙ is in
    absurd (cc)

-- an accepted TFM file isn't a table
pub disjoint : (bytes : List ℕ) → AreBytes bytes → font_fault_of bytes ≡ None → number_at bytes 0 ≡ negsuc 145471922 → ⊥
disjoint bytes are accepted is =
    let file = lawful bytes accepted in
    other_word bytes are file.head file.lawful.small.0 is
