-- The codes of a text while they are written.
use Rattle.std.proofs.Common.{◌≡◌, ℕ, zero, suc, ◌+◌, ◌-◌, ◌*◌, ◌^◌, ◌<◌, ◌≤◌, Bool, true, false, List, [], ◌∷◌, ◌++◌, length, map, take, min, Some, None, arith, refl, ap, sym, ◌∙◌, set, subst}
use Rattle.std.specs.Prelude.{Option, if◌then◌else◌}
use Rattle.std.specs.List.{range_with_len}
use Rattle.std.specs.Str.Lossy.{utf8_valid_len}
use Rattle.std.specs.Str.{is_utf8, IsUtf8}
use Rattle.std.proofs.lemmas.Grind.{take-set_at}
use Rattle.std.proofs.lemmas.List.{length-map}
use Rattle.std.proofs.lemmas.List.FromFn.{length-map-range_with_len, map-range_with_len_more}
use Rattle.std.proofs.lemmas.Str.{IsUtf8-from_is_utf8}
use Rattle.std.specs.Borrow.{Bor}
use Rattle.encoding_vectors.specs.Vectors.{characters_of, fault_line}
use Rattle.encodings.specs.Codes.{IsMadeOf}
use Rattle.encodings.specs.VectorContents.{Contents}
use Rattle.encodings.specs.declared.encoding.Encoding.{Encoding}
use Rattle.encodings.specs.declared.encoding.Encoding.TheVariants.{Vector}
use Rattle.encodings.specs.declared.places.Place.{Place}
use Rattle.encodings.specs.Lines.{fault_in, places_of}
use Rattle.encodings.specs.Texts.{codes_at, offsets_at, text_codes, uncoded_at}
use Rattle.encodings.proofs.TextLemmas.{text_few}
use Rattle.tfmset_c.specs.Arrays.{ArePut, HasRoom, IsFilled, IsOverlaid, IsPartly, held}
use Rattle.tfmset_c.specs.Encoded.{AreCodesTold, AreFilled, HaveRoom, IsCounted, IsEncodingTold, IsNoEncoding, TextCodes, codes_told, encoding_named_told, fault_told, offsets_for, offsets_from, report_of, uncoded_told}
use Rattle.tfmset_c.specs.declared.encode.TfmsetEncoded.{TfmsetEncoded}
use Rattle.tfmset_c.specs.declared.encode.TfmsetUncoded.{TfmsetUncoded}
use Rattle.tfmset_c.proofs.ArrayLemmas.{all_counted, all_put, nothing_put, put_part, put_past, whole_put}
use borrow.Rule.Slice.PartMut.{put_mid}

-- ---- names and vectors

pub of_name : (bytes : List ℕ) (o : Option (Option Encoding)) (encoding : Option Encoding) → o ≡ encoding_named_told bytes → o ≡ Some encoding → IsEncodingTold bytes encoding
of_name bytes o encoding told some = rw (sym told ∙ some) refl

pub of_vector : (bytes : List ℕ) (o : Option (Option Encoding)) (given : List (Option ℕ)) (made : Contents) (vector : Bor Contents) → o ≡ encoding_named_told bytes → o ≡ None
    → fault_line bytes ≡ None → given ≡ characters_of bytes → vector.now ≡ made → ((v : Bor Contents) → v.now ≡ made → IsMadeOf given (Vector v)) → IsEncodingTold bytes (Some (Vector vector))
of_vector bytes o given made vector told none sound same is all = rw (sym told ∙ none) (sound, (Vector vector, refl, rw same at all vector is))

pub of_neither : (bytes : List ℕ) (o : Option (Option Encoding)) (line : ℕ) → o ≡ encoding_named_told bytes → o ≡ None → fault_line bytes ≡ Some line → IsNoEncoding bytes
of_neither bytes o line told none fault = (sym told ∙ none, rw fault refl)

-- bytes that are a name, or a vector, aren't neither
pub named_stated : (bytes : List ℕ) (o : Option (Option Encoding)) (encoding : Option Encoding) → o ≡ encoding_named_told bytes → o ≡ Some encoding → IsNoEncoding bytes → ⊥
named_stated bytes o encoding told some (unnamed, faulty) = cc

pub vector_stated : (bytes : List ℕ) → fault_line bytes ≡ None → IsNoEncoding bytes → ⊥
vector_stated bytes sound (unnamed, faulty) = cc (rw sound at faulty)

pub ruleset stated = (of_name, of_vector, of_neither, named_stated, vector_stated)

-- ---- the arrays

-- elements that are written next
pub put_next : {T : Type 0} (told to_come put rest before now after : List T) (at at' : ℕ) → IsPartly told to_come at before now → to_come ≡ put ++ rest
    → ArePut put at at' now after → IsPartly told rest at' before after
put_next {T} told to_come put rest before now after at at' partly is made = made.further told rest before (subst (λ (l : List T). IsPartly told l at before now) is partly)

-- offsets that follow one another, and equal ones
bytes_from : (first before count : ℕ) → map (λ k. first + 1 * k) (range_with_len before count) ≡ range_with_len (first + before) count
bytes_from first before zero = refl
bytes_from first before (suc count) =
    ap (λ l. (first + 1 * before) ∷ l) (bytes_from first (before + 1) count) ∙ ap (λ k. k ∷ range_with_len (first + (before + 1)) count) (let e : first + 1 * before ≡ first + before = omega arith in e)
    ∙ ap (λ k. (first + before) ∷ range_with_len k count) (let e : first + (before + 1) ≡ first + before + 1 = omega arith in e)

pub byte_offsets : (first count : ℕ) → range_with_len first count ≡ offsets_from first 1 count
byte_offsets first count = ap (λ k. range_with_len k count) (omega arith) ∙ sym (bytes_from first 0 count)

same_from : (offset before : ℕ) (codes : List ℕ) → map (λ k. offset + 0 * k) (range_with_len before (length codes)) ≡ map (λ _. offset) codes
same_from offset before [] = refl
same_from offset before (code ∷ codes) =
    ap (λ l. (offset + 0 * before) ∷ l) (same_from offset (before + 1) codes) ∙ ap (λ k. k ∷ map (λ _. offset) codes) (let e : offset + 0 * before ≡ offset = omega arith in e)

-- one offset more is written
pub offset_more : (first step index : ℕ) (now : List ℕ) → index < length now → take index now ≡ offsets_from first step index
    → take (index + 1) (set now index (first + step * index)) ≡ offsets_from first step (index + 1)
offset_more first step index now within so_far =
    take-set_at now index (index + 1) (first + step * index) refl within ∙ ap (λ l. l ++ (first + step * index) ∷ []) so_far
    ∙ sym (map-range_with_len_more (λ k. first + step * k) 0 index index (omega arith))

-- offsets that were written to their place are put
pub offsets_written : (first step count at next k : ℕ) (now after made : List ℕ) → next ≡ min (at + count) (2 ^ 64 - 1) → after ≡ put_mid at k now made
    → made ≡ offsets_from first step k → k ≡ count → at + count ≤ length now → length after ≡ length now → ArePut (offsets_from first step count) at next now after
offsets_written first step count at next k now after made is where_put are all fits same =
    let long : length (offsets_from first step count) ≡ count = length-map-range_with_len (λ k. first + step * k) 0 count in
    put_part (offsets_from first step count) now after made at next k (rw long is) where_put (rw all at are) (rw long all) (rw long fits) same

pub offsets_past : (first step count at next : ℕ) (now : List ℕ) → next ≡ min (at + count) (2 ^ 64 - 1) → length now < at + count → ArePut (offsets_from first step count) at next now now
offsets_past first step count at next now is past =
    let long : length (offsets_from first step count) ≡ count = length-map-range_with_len (λ k. first + step * k) 0 count in
    put_past (offsets_from first step count) now now at next (rw long is) (rw long past) refl

pub ruleset placing = (offsets_written, offsets_past)

-- a character that has codes comes next
pub coded_next : (encoding : Encoding) (place : Place) (places rest : List Place) (made : List ℕ) → places ≡ place ∷ rest → text_codes encoding place.character ≡ Some made
    → (codes_at encoding places ≡ made ++ codes_at encoding rest) × (offsets_at encoding places ≡ offsets_from place.offset 0 (length made) ++ offsets_at encoding rest)
    × (uncoded_at encoding places ≡ uncoded_at encoding rest)
coded_next encoding place places rest made are coded = rw (are, coded, same_from place.offset 0 made) (refl, refl, refl)

-- offsets that follow one another come next
pub kept_next : (told to_come rest before now after : List ℕ) (first count at at' : ℕ) → IsPartly told to_come at before now → to_come ≡ range_with_len first count ++ rest
    → ArePut (offsets_from first 1 count) at at' now after → IsPartly told rest at' before after
kept_next told to_come rest before now after first count at at' partly is made =
    put_next told to_come (offsets_from first 1 count) rest before now after at at' partly (is ∙ ap (λ l. l ++ rest) (byte_offsets first count)) made

pub ruleset filling = (put_next, kept_next, nothing_put)

-- ---- the result of a text

-- a text of bytes
pub bytes_filled : (o : Option Encoding) (text codes codes' offsets offsets' : List ℕ) (uncoded : List TfmsetUncoded) (count placed : ℕ) → o ≡ None → ArePut text 0 count codes codes'
    → ArePut (offsets_from 0 1 (length text)) 0 placed offsets offsets'
    → AreFilled (codes_told o text) (report_of count 0 0) placed codes codes' offsets offsets' uncoded uncoded
unfolding codes_told
bytes_filled o text codes codes' offsets offsets' uncoded count placed none put next = rw none (record {
  codes_in = whole_put text codes codes' count put;
  offsets_in = whole_put (range_with_len 0 (length text)) offsets offsets' placed (rw (byte_offsets 0 (length text)) next);
  uncoded_in = nothing_put [] uncoded;
  sound = refl;
})

-- a text in UTF-8
pub text_filled : (o : Option Encoding) (encoding : Encoding) (text codes codes' offsets offsets' : List ℕ) (uncoded uncoded' : List TfmsetUncoded) (places : List Place) (report : TfmsetEncoded) (placed : ℕ)
    → o ≡ Some encoding → places ≡ places_of true text → IsFilled (codes_at encoding places) report.count codes codes'
    → IsFilled (offsets_at encoding places) placed offsets offsets' → IsFilled (map uncoded_told (uncoded_at encoding places)) report.uncoded uncoded uncoded' → report.offset ≡ 0
    → AreFilled (codes_told o text) report placed codes codes' offsets offsets' uncoded uncoded'
unfolding codes_told
text_filled o encoding text codes codes' offsets offsets' uncoded uncoded' places report placed some are first second third none =
    rw (some, sym are) (record { codes_in = first; offsets_in = second; uncoded_in = third; sound = none })

pub no_fault : (o : Option Encoding) (text : List ℕ) → ((encoding : Encoding) → o ≡ Some encoding → is_utf8 text ≡ true) → fault_told o text ≡ None
unfolding fault_told fault_in
no_fault None text utf8 = refl
no_fault (Some encoding) text utf8 = rw (utf8 encoding refl) refl

pub text_fault : (o : Option Encoding) (encoding : Encoding) (text : List ℕ) (offset : ℕ) → o ≡ Some encoding → Some offset ≡ fault_in text → fault_told o text ≡ Some offset
unfolding fault_told
text_fault o encoding text offset some is = rw some (sym is)

pub fault_found : (text : List ℕ) → is_utf8 text ≡ false → None ≡ fault_in text → ⊥
unfolding fault_in
fault_found text bad none = cc (rw bad at none)

pub ruleset texts = (no_fault, text_fault, fault_found)

-- ---- the effect of a call

counted_as : (told : TextCodes) (report : TfmsetEncoded) (placed : ℕ) (codes codes' offsets offsets' : List ℕ) (uncoded uncoded' : List TfmsetUncoded)
    → AreFilled told report placed codes codes' offsets offsets' uncoded uncoded' → report ≡ report_of (held (length told.codes)) (held (length told.uncoded)) 0
counted_as told report placed codes codes' offsets offsets' uncoded uncoded' filled =
    ap (λ n. report_of n report.uncoded report.offset) (all_counted filled.codes_in)
    ∙ ap (λ n. report_of (held (length told.codes)) n report.offset) (all_counted filled.uncoded_in)
    ∙ ap (report_of (held (length told.codes)) (held (length told.uncoded))) filled.sound

-- an array of offsets that has room, or the length 0
offsets_put : (told before after : List ℕ) (placed : ℕ) → IsFilled told placed before after → HasRoom (length (offsets_for (length before) told)) (length before)
    → IsOverlaid (offsets_for (length before) told) before after
offsets_put told [] [] placed filled room = refl
offsets_put told [] (one ∷ after) placed filled room = absurd (omega (arith, filled.same_length))
offsets_put told (one ∷ before) after placed filled room = all_put filled room

pub no_offsets : (told : List ℕ) (room : ℕ) → room ≡ 0 → HasRoom (length (offsets_for room told)) room
unfolding HasRoom
no_offsets told zero none = (omega arith, omega arith)
no_offsets told (suc room) none = absurd (omega (arith, none))

pub some_offsets : (told : List ℕ) (room : ℕ) → (room ≡ 0 → ⊥) → offsets_for room told ≡ told
some_offsets told zero some = absurd (some refl)
some_offsets told (suc room) some = refl

pub ruleset rooms = (no_offsets, some_offsets)

-- there are few codes
pub few_filled : (o : Option Encoding) (text : List ℕ) (report : TfmsetEncoded) (placed : ℕ) (codes codes' offsets offsets' : List ℕ) (uncoded uncoded' : List TfmsetUncoded)
    → AreFilled (codes_told o text) report placed codes codes' offsets offsets' uncoded uncoded' → fault_told o text ≡ None → report.count + report.uncoded ≤ length text
unfolding codes_told fault_told fault_in
few_filled None text report placed codes codes' offsets offsets' uncoded uncoded' filled none =
    omega (arith, all_counted filled.codes_in, all_counted filled.uncoded_in)
few_filled (Some encoding) text report placed codes codes' offsets offsets' uncoded uncoded' filled none =
    omega (arith, all_counted filled.codes_in, all_counted filled.uncoded_in, length-map (uncoded_at encoding (places_of true text)) uncoded_told, text_few encoding text (by (is_utf8 text) refl none))
  where
    by : (b : Bool) → is_utf8 text ≡ b → (if b then None else Some (utf8_valid_len text)) ≡ None → IsUtf8 text
    by true utf8 none = IsUtf8-from_is_utf8 text utf8
    by false bad none = cc

pub effect_done : (told : TextCodes) (report : TfmsetEncoded) (placed : ℕ) (codes codes' offsets offsets' : List ℕ) (uncoded uncoded' : List TfmsetUncoded)
    → AreFilled told report placed codes codes' offsets offsets' uncoded uncoded' → HaveRoom told (length codes') (length offsets') (length uncoded')
    → AreCodesTold told 0 report codes codes' offsets offsets' uncoded uncoded'
effect_done told report placed codes codes' offsets offsets' uncoded uncoded' filled fits =
    let room : HaveRoom told (length codes) (length offsets) (length uncoded) = rw (filled.codes_in.same_length, filled.offsets_in.same_length, filled.uncoded_in.same_length) at fits in
    record {
      counted = λ _. counted_as told report placed codes codes' offsets offsets' uncoded uncoded' filled;
      room = λ _. room;
      no_room = λ three. absurd (omega (arith, three));
      written = λ _. (all_put filled.codes_in room.0, offsets_put told.offsets offsets offsets' placed filled.offsets_in room.1, all_put filled.uncoded_in room.2);
    }

pub counted_all : (told : TextCodes) (report : TfmsetEncoded) (placed : ℕ) (codes codes' offsets offsets' : List ℕ) (uncoded uncoded' : List TfmsetUncoded)
    → AreFilled told report placed codes codes' offsets offsets' uncoded uncoded' → IsCounted told report placed
counted_all told report placed codes codes' offsets offsets' uncoded uncoded' filled =
    record { codes = all_counted filled.codes_in; offsets = all_counted filled.offsets_in; uncoded = all_counted filled.uncoded_in }
