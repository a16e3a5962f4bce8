use Rattle.std.proofs.Common.{◌≡◌, ap, ◌∙◌}
use Rattle.std.specs.Int.{w32, cast_signed, cast_unsigned}
use Rattle.std.proofs.lemmas.Int.{to_z-of_z}
use Rattle.tfm_words.specs.Word.{value_of}
use Rattle.prepared_font.specs.Layout.{number_at}
use Rattle.prepared_font.proofs.WordLemmas.{number_of_bytes}
use Rattle.prepared_font.proofs.putting.put.Goals as goal

pub returns-clause-here : goal.returns-clause-here
unfolding number_at
returns-clause-here c =
    let same : cast_signed w32 (cast_unsigned w32 c.args.n) ≡ c.args.n = to_z-of_z w32 c.args.n c.ranges.n in
    let bytes = rw same at c.to_be_bytes.ensures in
    ap value_of (c.put_word.ensures.here ∙ bytes) ∙ number_of_bytes c.args.n c.ranges.n
