use Rattle.std.proofs.Common.{arith, rules, ap, ◌∙◌, ◌≢◌, ◌++◌, ◌∷◌, [], append_assoc, length-append}
use Rattle.std.proofs.lemmas.Grind.{common_steps}
use Rattle.std.proofs.lemmas.List.Elements.{All-append}
use Rattle.line_chunks.specs.Pending.{bytes_of}
use Rattle.line_chunks.proofs.InputLemmas.{consumes_all, consumes_more, consumes_pending}
use Rattle.line_chunks.proofs.input.Input.skip.Goals as goal

pub returns-then-branch : goal.returns-then-branch
returns-then-branch g c =
    let so_far = c.loop.invariant in
    let end = c.in_ok-read.ensures.end (search rules) in
    (so_far.bytes, so_far.one, so_far.long, so_far.is, consumes_all _ _ _ so_far.bytes _ so_far.text c.in_ok-read.ensures.text (ap bytes_of (end.0 ∙ so_far.none)) end.1)

pub returns-then-has_lines : goal.returns-then-has_lines
returns-then-has_lines g c =
    let so_far = c.loop.invariant in
    let (part, one, cut, added) = c.skip_line.ensures.skipped in (
      so_far.bytes ++ part,
      All-append (λ byte. byte ≢ 10) so_far.bytes part so_far.one one,
      omega (arith, length-append so_far.bytes part),
      added so_far.bytes so_far.is,
      rw (append_assoc so_far.bytes part (10 ∷ [])) (consumes_more _ _ _ _ so_far.bytes (part ++ 10 ∷ []) so_far.text c.in_ok-read.ensures.text (consumes_pending _ _ (part ++ 10 ∷ []) _ (grind (arith, common_steps)))),
    )

pub loop-preserved : goal.loop-preserved
loop-preserved g c =
    let so_far = c.loop.invariant in
    let rest = c.read.new.self.pending.rest in
    let skipped = c.skip_rest-in-loop.ensures in
    record {
      bytes = so_far.bytes ++ rest;
      one = All-append (λ byte. byte ≢ 10) so_far.bytes rest so_far.one skipped.one;
      long = omega (arith, length-append so_far.bytes rest);
      is = skipped.skipped so_far.bytes so_far.is;
      small = grind (arith, common_steps);
      none = skipped.none;
      text = consumes_more _ _ _ _ so_far.bytes rest so_far.text c.in_ok-read.ensures.text (consumes_pending _ _ rest _ (grind (arith, common_steps)));
    }
