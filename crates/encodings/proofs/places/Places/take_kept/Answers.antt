use Rattle.std.proofs.Common.{rules, ◌≡◌, true, take, subst}
use Rattle.std.specs.List.{list_all}
use Rattle.encodings.specs.Texts.{is_kept}
use Rattle.encodings.proofs.TextLemmas.{kept_front}
use Rattle.encodings.proofs.places.Places.take_kept.Goals as goal

pub returns : goal.returns
returns c =
    kept_front c.args.encoding c.single_codes.result.now c.self.inside.rest.now c.as_bytes-2.result.now c.split_at.result.1.now c.args.self.now c.self.inside.offset c.kept_len-len.result
    (search rules) (search rules) (search rules)
    (subst (λ l. list_all (is_kept c.single_codes.result.now) (take c.kept_len-len.result l) ≡ true) c.as_bytes.ensures.value c.kept_len-len.ensures.kept)
    (search rules) (search rules) (search rules)
