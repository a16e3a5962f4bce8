use Rattle.tfmset_c.proofs.EncodedLemmas.{of_vector}
use Rattle.tfmset_c.proofs.encode.encoding_of.Goals as goal

pub returns-in-Ok-clause-told : goal.returns-in-Ok-clause-told
returns-in-Ok-clause-told c =
    of_vector c.args.bytes.now _ c.in-Ok.characters c.of_characters-made.result _ c.named_encoding.ensures c.in-None.is c.in-Ok.ensures.read c.in-Ok.ensures.characters
    c.insert.ensures.value c.of_characters-made.ensures
