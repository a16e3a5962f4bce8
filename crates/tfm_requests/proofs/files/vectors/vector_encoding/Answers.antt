use Rattle.tfm_requests.proofs.files.vectors.vector_encoding.Goals as goal

pub returns-in-Ok-keep_vector-clause-encoding : goal.returns-in-Ok-keep_vector-clause-encoding
returns-in-Ok-keep_vector-clause-encoding c =
    (c.in-Ok.ensures.read, rw c.in-Ok.ensures.characters at c.of_characters.ensures c.in-Ok-keep_vector.vector c.in-Ok-keep_vector.ensures)
