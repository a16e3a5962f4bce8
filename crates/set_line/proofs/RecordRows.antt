-- Worked examples: records, computed on the definitions alone.
use Rattle.std.proofs.Common.{◌≡◌, pos, negsuc, [], ◌∷◌, refl}
use Rattle.std.specs.Prelude.{codes}
use Rattle.std.specs.Fmt.{digits}
use Rattle.run_plan.specs.declared.version.Version.TheVariants.{One, Two, Json}
use Rattle.lig_kern.specs.declared.item.Item.TheVariants.{Char, Kern, Space, Skipped}
use Rattle.set_line.specs.declared.outcome.LineRefusal.TheVariants.{TooLong, Missing, Steps}
use Rattle.set_line.specs.declared.outcome.Outcome.TheVariants.{Set, Refused}
use Rattle.set_line.specs.declared.records.text_refusal.TextRefusal.TheVariants.{NotUtf8, Uncoded}
use Rattle.set_line.specs.Record.{digits_of, head_text, record_text, refusal_text, refused, set_text, text_in, text_record, text_result}

-- ---- in words

-- each kind of item; the number 8620 is 256 and 8364
a_record : record_text 1 1 (Set (Char 97 (pos 327680) ∷ Skipped 100 ∷ Space (pos 218453) ∷ Kern (negsuc 40959) ∷ Skipped 8620 ∷ []) (pos 505173) 3) One
    ≡ codes "1:1 set 505173 c97=327680 m100 s218453 k-40960 u20AC\n"
unfolding digits_of head_text record_text set_text text_in text_record text_result digits
a_record = refl

a_record_with_steps : record_text 2 10 (Set [] (pos 0) 0) Two ≡ codes "2:10 set 0 steps 0\n"
unfolding head_text record_text set_text text_in text_record text_result digits
a_record_with_steps = refl

a_refusal : record_text 1 2 (Refused (Missing 1 100)) Two ≡ codes "1:2 refused missing 1 100\n"
unfolding head_text record_text refusal_text text_record text_result digits
a_refusal = refl

not_utf8 : text_record 1 2 (refused (NotUtf8 3)) One ≡ codes "1:2 refused encoding 3\n"
unfolding head_text refusal_text text_record digits
not_utf8 = refl

-- the fewest digits and the most
uncoded : text_record 1 2 (refused (Uncoded 4 233)) One ≡ codes "1:2 refused uncoded 4 U+00E9\n"
unfolding digits_of head_text refusal_text text_record digits
uncoded = refl

uncoded_far : text_record 1 2 (refused (Uncoded 4 1114111)) Two ≡ codes "1:2 refused uncoded 4 U+10FFFF\n"
unfolding digits_of head_text refusal_text text_record digits
uncoded_far = refl

-- ---- as JSON objects

an_object : record_text 1 1 (Set (Char 111 (pos 327681) ∷ Kern (negsuc 72818) ∷ Space (pos 218453) ∷ Skipped 100 ∷ Skipped 8620 ∷ []) (pos 473315) 10) Json
    ≡ codes "{\"source\":1,\"line\":1,\"width\":473315,\"steps\":10,\"items\":[[\"c\",111,327681],[\"k\",-72819],[\"s\",218453],[\"m\",100],[\"u\",8364]]}\n"
unfolding head_text record_text set_text text_in text_record text_result digits
an_object = refl

an_object_without_items : record_text 18446744073709551615 10 (Set [] (pos 0) 0) Json
    ≡ codes "{\"source\":18446744073709551615,\"line\":10,\"width\":0,\"steps\":0,\"items\":[]}\n"
unfolding head_text record_text set_text text_in text_record text_result digits
an_object_without_items = refl

missing_in_an_object : record_text 1 2 (Refused (Missing 1 100)) Json
    ≡ codes "{\"source\":1,\"line\":2,\"refused\":\"missing\",\"offset\":1,\"code\":100}\n"
unfolding head_text record_text refusal_text text_record text_result digits
missing_in_an_object = refl

too_long_in_an_object : record_text 1 3 (Refused (TooLong 65536)) Json ≡ codes "{\"source\":1,\"line\":3,\"refused\":\"too-long\",\"bytes\":65536}\n"
unfolding head_text record_text refusal_text text_record text_result digits
too_long_in_an_object = refl

steps_in_an_object : record_text 1 4 (Refused (Steps 100)) Json ≡ codes "{\"source\":1,\"line\":4,\"refused\":\"steps\",\"limit\":100}\n"
unfolding head_text record_text refusal_text text_record text_result digits
steps_in_an_object = refl

not_utf8_in_an_object : text_record 1 5 (refused (NotUtf8 3)) Json ≡ codes "{\"source\":1,\"line\":5,\"refused\":\"encoding\",\"offset\":3}\n"
unfolding head_text refusal_text text_record digits
not_utf8_in_an_object = refl

uncoded_in_an_object : text_record 1 6 (refused (Uncoded 4 8364)) Json
    ≡ codes "{\"source\":1,\"line\":6,\"refused\":\"uncoded\",\"offset\":4,\"character\":8364}\n"
unfolding head_text refusal_text text_record digits
uncoded_in_an_object = refl
